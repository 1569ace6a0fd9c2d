-- Bytes of the size of a run are the run packed again: words as they are, and bits once the spare bits of the last byte are off.
-- Assumes nothing.
use mathlib.Core.Path.{◌≡◌, refl, sym, ap, ◌∙◌, subst}
use mathlib.Core.Logic.{◌≢◌}
use mathlib.Core.List.{List}
use Prim.Native.Nat.{ℕ, ◌-◌, ◌/◌, ◌%◌, ◌^◌, ◌≤◌}
use native.Mathlib.Nat.{mod-lt, mod-le}
use native.Mathlib.Decide.{ℕ_discrete}
use native.Mathlib.Omega.{arith}
use lib.Pow.{pow_pos}
use lib.ListN.{length, get_or, set, length-set, get_or-eq_default}
use lib.Seq.{get_or-set_same, get_or-set_other, set-get_or}
use Rattle.registers.specs.Memory.{byte_bits, bit, bit_among, FitIn}
use Rattle.registers.specs.Packing.{bytes_for_bits, bytes_for_words, packed_bit, packed_word, BitsPacked, WordsPacked}
use Rattle.registers.proofs.Bit.{bit_low, bit_past}
use Rattle.registers.proofs.Laws.{BitsPackedDetermined}
use Rattle.frames.specs.declared.Width.{Width}
use Rattle.frames.specs.declared.Width.TheVariants.{Bit, Word}
use Rattle.frames.specs.Limits.{bytes_for}
use Rattle.master.specs.Building.{PackedAgain}
use Rattle.master.specs.Reading.{SpareBits0}
use Rattle.master.specs.Spare.{bits_in_last}

pub words_packed_again : (count : ℕ) (xs : List ℕ) → FitIn byte_bits xs → length xs ≡ bytes_for_words count
    → WordsPacked count (packed_word xs) xs
words_packed_again count xs fit size = record { size = size; bytes_fit = fit; shown = λ n h. refl }

pub packed_size : (width : Width) (count : ℕ) (carried packed : List ℕ) → PackedAgain width count carried packed
    → length packed ≡ bytes_for width count
packed_size Bit count carried packed p = p.size
packed_size Word count carried packed p = p.size

-- ---- spare bits

-- the last byte, and all bytes, with the spare bits off
abbrev pub last_off : ℕ → List ℕ → ℕ
last_off count xs = get_or xs (length xs - 1) 0 % 2 ^ bits_in_last count

abbrev pub spare_off : ℕ → List ℕ → List ℕ
spare_off count xs = set xs (length xs - 1) (last_off count xs)

module _ (count : ℕ) (xs : List ℕ) (fit : FitIn byte_bits xs) (size : length xs ≡ bytes_for_bits count) (some : 1 ≤ count) where
  abbrev at : ℕ
  at = length xs - 1

  -- byte j of them, and bit n: in the last byte, and elsewhere
  last_byte : (j : ℕ) → j ≡ at → get_or (spare_off count xs) j 0 ≡ last_off count xs
  last_byte j e = ap (λ (i : ℕ). get_or (spare_off count xs) i 0) e ∙ get_or-set_same xs at (last_off count xs) 0 (omega arith)

  other_byte : (j : ℕ) → j ≢ at → get_or (spare_off count xs) j 0 ≡ get_or xs j 0
  other_byte j other = get_or-set_other xs at j (last_off count xs) 0 other

  last_bit : (n : ℕ) → n / byte_bits ≡ at → packed_bit (spare_off count xs) n ≡ bit (last_off count xs) (n % byte_bits)
  unfolding bit_among
  last_bit n e = ap (λ (x : ℕ). bit x (n % byte_bits)) (last_byte (n / byte_bits) e)

  other_bit : (n : ℕ) → n / byte_bits ≢ at → packed_bit (spare_off count xs) n ≡ packed_bit xs n
  unfolding bit_among
  other_bit n other = ap (λ (x : ℕ). bit x (n % byte_bits)) (other_byte (n / byte_bits) other)

  past : (n : ℕ) → length xs ≤ n / byte_bits → packed_bit xs n ≡ 0
  unfolding bit_among
  past n h =
      ap (λ (x : ℕ). bit x (n % byte_bits)) (get_or-eq_default xs 0 h) ∙ bit_past 0 0 (n % byte_bits) (omega arith) (omega arith)

  pub bits_packed_again : BitsPacked count (packed_bit xs) (spare_off count xs)
  unfolding bit_among bits_in_last
  bits_packed_again =
      let last = get_or xs at 0 in
      let used = bits_in_last count in
      record {
        size = length-set xs at (last_off count xs) ∙ size;
        bytes_fit = λ j.
            elim (ℕ_discrete j at) [
              | yes e ↦ omega (arith, last_byte j e, mod-le last (2 ^ used), fit at)
              | no other ↦ omega (arith, other_byte j other, fit j)
            ];
        shown = λ n h.
            elim (ℕ_discrete (n / byte_bits) at) [
              | yes e ↦ last_bit n e ∙ bit_low used last (n % byte_bits) (omega arith)
                  ∙ ap (λ (j : ℕ). bit (get_or xs j 0) (n % byte_bits)) (sym e)
              | no other ↦ other_bit n other
            ];
        spare = λ n h.
            elim (ℕ_discrete (n / byte_bits) at) [
              | yes e ↦ last_bit n e ∙ bit_past used (last % 2 ^ used) (n % byte_bits) (mod-lt last (pow_pos used)) (omega arith)
              | no other ↦ other_bit n other ∙ past n (omega arith)
            ];
      }

  -- they are off already just where the last byte stays what it is
  pub spare_0_last_stays : SpareBits0 Bit count xs → last_off count xs ≡ get_or xs at 0
  spare_0_last_stays spare =
      sym (last_byte at refl)
      ∙ ap (λ (ys : List ℕ). get_or ys at 0)
      (BitsPackedDetermined count (packed_bit xs) (spare_off count xs) xs bits_packed_again
      (record { size = size; bytes_fit = fit; shown = λ n h. refl; spare = spare }))

  pub last_stays_spare_0 : last_off count xs ≡ get_or xs at 0 → SpareBits0 Bit count xs
  last_stays_spare_0 stays =
      subst (SpareBits0 Bit count) (ap (set xs at) stays ∙ set-get_or xs at 0) bits_packed_again.spare
