-- Calls worked out by hand: the definitions say of them what the papers say.
-- Assumes nothing.
use mathlib.Core.Path.{◌≡◌, refl, sym, ap, ◌∙◌}
use mathlib.Core.Logic.{inl, inr}
use mathlib.Core.Bool.{true, false}
use mathlib.Core.List.{List, [], ◌∷◌}
use Prim.Native.Nat.{ℕ, zero, suc, ◌+◌, ◌-◌, ◌<◌}
use native.Mathlib.Omega.{arith}
use lib.Arith.{lt-one}
use Rattle.promise.specs.Promise.{Attempt}
use Rattle.registers.specs.Memory.{bit, bit_among, image_word, image_bit, FitIn, from}
use Rattle.registers.specs.Packing.{BitsPacked, WordsPacked}
use Rattle.registers.specs.Storing.{Outside}
use Rattle.registers.specs.Calls.{StoreBit}
use Rattle.registers.proofs.Bit.{bit_low, bit_shifted}
use Rattle.registers.proofs.Packed.{packed_byte, words_packed_none, words_packed_next}
use Rattle.registers.proofs.Stored.{stored_in_word}

-- bit 24 is word 1, bit 8; bit 0E91 hex is word 00E9 hex, bit 1
pub bit_24 : (image : List ℕ) → image_bit image 24 ≡ bit (image_word image 1) 8
unfolding bit_among
bit_24 image = refl

pub bit_0e91 : (image : List ℕ) → image_bit image 0x0e91 ≡ bit (image_word image 0x00e9) 1
unfolding bit_among
bit_0e91 image = refl

-- words 1 and 2 of this image are 1000 and 500
abbrev image : List ℕ
image = 0 ∷ 1000 ∷ 500 ∷ []

image_fits : FitIn 16 image
image_fits zero = omega arith
image_fits (suc zero) = omega arith
image_fits (suc (suc zero)) = omega arith
image_fits (suc (suc (suc i))) = omega arith

-- 744 is 1000 but for bit 8
other_bits : (p : ℕ) → Outside 8 1 p → bit 744 p ≡ bit 1000 p
other_bits p out =
    elim out [
      | inl l ↦ sym (bit_low 8 744 p l) ∙ bit_low 8 1000 p l
      | inr l ↦ let e : 9 + (p - 9) ≡ p = omega arith in
          ap (bit 744) (sym e) ∙ sym (bit_shifted 9 744 (p - 9)) ∙ bit_shifted 9 1000 (p - 9) ∙ ap (bit 1000) e
    ]

-- bit 24 off turns word 1 from 1000 into 744
pub bit_24_off : StoreBit 24 false image true (0 ∷ 744 ∷ 500 ∷ [])
unfolding Attempt bit
bit_24_off = (
  omega arith,
  stored_in_word image 1 8 1 744 (λ n. 0) (omega arith) (omega arith) image_fits (omega arith)
      (λ n h. ap (λ (i : ℕ). bit 744 (8 + i)) (lt-one h)) other_bits,
)

-- three bits from bit 24 of 1000 give the byte 03
three_bits_shown : (p : ℕ) → p < 3 → bit 3 p ≡ image_bit image (24 + p)
unfolding bit bit_among
three_bits_shown zero h = refl
three_bits_shown (suc zero) h = refl
three_bits_shown (suc (suc zero)) h = refl
three_bits_shown (suc (suc (suc p))) h = absurd (omega arith)

pub three_bits : BitsPacked 3 (from 24 (image_bit image)) (3 ∷ [])
three_bits = packed_byte 3 (from 24 (image_bit image)) 3 (omega arith) (omega arith) (record { small = omega arith; shown = three_bits_shown })

-- words 1 and 2 give 03 E8 01 F4
pub two_words : WordsPacked 2 (from 1 (image_word image)) (0x03 ∷ 0xe8 ∷ 0x01 ∷ 0xf4 ∷ [])
two_words =
    let run = from 1 (image_word image) in
    words_packed_next 1 run (0x03 ∷ 0xe8 ∷ []) (words_packed_next 0 run [] (words_packed_none run) (omega arith)) (omega arith)
