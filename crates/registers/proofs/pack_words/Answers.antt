-- `pack_words` meets its contract: whether it can be is looked at first, and then one turn packs one word more.
-- Assumes nothing.
use Rattle.std.proofs.Common.{arith, ◌≡◌, List, [], ◌∷◌, ℕ, suc, ◌+◌, ◌*◌, ◌/◌, ◌%◌, ◌^◌, ◌≤◌, ◌<◌, length, get_or}
use Rattle.std.proofs.Math.ListN.{take, set}
use Rattle.registers.specs.Memory.{word_bits, image_word, from}
use Rattle.registers.specs.Packing.{WordsPacked, Filled}
use Rattle.registers.proofs.Packed.{words_packed_next}
use Rattle.registers.proofs.Filled.{filled_sets}
use Rattle.registers.proofs.pack_words.Goals as goal

-- one turn
word_more : (before buffer pair : List ℕ) (i : ℕ) (run : ℕ → ℕ) → Filled (2 * i) (WordsPacked i run) before buffer
    → pair ≡ run i / 256 % 256 ∷ run i % 256 ∷ [] → 2 * i + 2 ≤ length before → run i < 2 ^ word_bits
    → Filled (2 * (i + 1)) (WordsPacked (i + 1) run) before (set (set buffer (2 * i) (get_or pair 0 0)) (2 * i + 1) (get_or pair 1 0))
word_more before buffer pair i run filled e room small =
    let high : run i / 256 % 256 ≡ run i / 256 = omega arith in
    let last : 2 * i + 1 ≡ suc (2 * i) = omega arith in
    rw (e, high, last)
    (filled_sets (2 * i) (2 * (i + 1)) (WordsPacked i run) (WordsPacked (i + 1) run) before buffer (run i / 256 ∷ run i % 256 ∷ []) filled
    (omega arith) (omega arith) (λ p. words_packed_next i run (take (2 * i) buffer) p small))

pub loop-i-preserved : goal.loop-i-preserved
loop-i-preserved c =
    word_more c.args.buffer.now c.loop-i.buffer c.to_be_bytes.result c.loop-i.i (from c.args.first (image_word c.args.image.now))
    c.loop-i.invariant c.to_be_bytes.ensures (omega arith) (c.type_inv.image (c.args.first + c.loop-i.i)).fits
