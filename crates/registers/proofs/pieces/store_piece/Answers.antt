-- `store_piece` meets its contract: the word is made of what is above the bits, the bits, and what is below them.
-- Assumes nothing.
use Rattle.std.proofs.Common.{arith, rules, ◌≡◌, List, ℕ, ◌+◌, ◌*◌, ◌/◌, ◌%◌, ◌^◌, ◌≤◌, ◌<◌, length, get_or}
use Rattle.std.proofs.Math.ListN.{set}
use Rattle.registers.specs.Memory.{word_bits, bit, FitIn}
use Rattle.registers.specs.Storing.{BitsStored}
use Rattle.registers.proofs.Merge.{merged, merged_small, merged_new, merged_old}
use Rattle.registers.proofs.Stored.{stored_in_word}
use Rattle.registers.proofs.pieces.store_piece.Goals as goal

-- the word that is stored
abbrev value : (old low high mask bits : ℕ) → ℕ
value old low high mask bits = old / high * high + (bits % mask * low + old % low)

module _ (image : List ℕ) (word place width bits low high mask : ℕ) (fit : FitIn word_bits image) (fits : place + width ≤ word_bits)
    (el : low ≡ 2 ^ place) (eh : high ≡ 2 ^ (place + width)) (em : mask ≡ 2 ^ width) where
  abbrev old : ℕ
  old = get_or image word 0

  value_merged : value old low high mask bits ≡ merged place width bits old
  value_merged = cc

  value_small : value old low high mask bits < 2 ^ word_bits
  value_small = rw value_merged (merged_small place width bits old word_bits fits (fit word))

  value_stored : word < length image
      → BitsStored (word * word_bits + place) width (bit bits) image (set image word (value old low high mask bits))
  value_stored inside =
      rw value_merged
      (stored_in_word image word place width (merged place width bits old) (bit bits) inside fits fit
      (merged_small place width bits old word_bits fits (fit word))
      (merged_new place width bits old) (merged_old place width bits old))

pub overflow_cast-image : goal.overflow_cast-image
overflow_cast-image c =
    record {
      fits = value_small c.args.image.now c.args.word c.args.place c.args.width c.args.bits c.power_of_two-low.result
          c.power_of_two-high.result c.power_of_two.result (λ i. search rules) (omega arith) c.power_of_two-low.ensures
          c.power_of_two-high.ensures c.power_of_two.ensures;
    }

pub returns : goal.returns
returns c =
    value_stored c.args.image.now c.args.word c.args.place c.args.width c.args.bits c.power_of_two-low.result
    c.power_of_two-high.result c.power_of_two.result (λ i. search rules) (omega arith) c.power_of_two-low.ensures
    c.power_of_two-high.ensures c.power_of_two.ensures (omega arith)
