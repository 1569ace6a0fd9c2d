-- The image of the bench station: what is shown of it, and what is stored in it.
-- Assumes nothing.
use mathlib.Core.Path.{◌≡◌, refl, ap, ◌∙◌}
use mathlib.Core.List.{[], ◌∷◌}
use Prim.Native.Nat.{ℕ, zero, suc, ◌+◌, ◌-◌, ◌/◌, ◌%◌, ◌^◌, ◌≤◌, ◌<◌}
use native.Mathlib.Omega.{arith}
use lib.Arith.{lt-one}
use lib.ListN.{get_or, replicate}
use Rattle.registers.specs.Memory.{word_bits, bit, bit_among, image_word, image_bit, FitIn, from}
use Rattle.registers.specs.Packing.{packed_word}
use Rattle.registers.specs.Storing.{BitsStored, WordsStored}
use Rattle.registers.proofs.Merge.{merged, merged_small, merged_new, merged_old}
use Rattle.registers.proofs.Packed.{packed_byte, words_packed_none, words_packed_next}
use Rattle.registers.proofs.Stored.{stored_in_word, words_stored_none, words_stored_next}
use Rattle.areas.specs.Holding.{Among}
use Rattle.frames.specs.declared.Width.TheVariants.{Bit, Word}
use Rattle.frames.specs.Limits.{off}
use Rattle.slave.specs.Answer.{Shown, StoredOne, StoredRun}
use Rattle.demands.specs.Bench.{words, image}

below_3 : (P : ℕ → Type 0) → P 0 → P 1 → P 2 → (n : ℕ) → n < 3 → P n
below_3 P a b c zero h = a
below_3 P a b c (suc zero) h = b
below_3 P a b c (suc (suc zero)) h = c
below_3 P a b c (suc (suc (suc n))) h = absurd (omega arith)

-- ---- shown

pub bits_24_to_26 : Shown Bit 24 3 image (0x03 ∷ [])
unfolding bit bit_among
bits_24_to_26 =
    packed_byte 3 (from 24 (image_bit image)) 3 (omega arith) (omega arith)
    (record { small = omega arith; shown = below_3 (λ n. bit 3 n ≡ image_bit image (24 + n)) refl refl refl })

abbrev pub words_from : ℕ → ℕ → ℕ
words_from first = from first (image_word image)

pub one_word : (k : ℕ) → words_from k 0 < 2 ^ word_bits → Shown Word k 1 image (words_from k 0 / 256 ∷ words_from k 0 % 256 ∷ [])
one_word k small = words_packed_next 0 (words_from k) [] (words_packed_none (words_from k)) small

-- so are those of another image that agrees on them
pub bits_24_to_26_agree : (k : ℕ) → Among 24 3 k → image_bit image k ≡ image_bit (words 0x0300 0) k
unfolding bit bit_among
bits_24_to_26_agree k (least, most) =
    let e : 24 + (k - 24) ≡ k = omega arith in
    rw e at (below_3 (λ n. image_bit image (24 + n) ≡ image_bit (words 0x0300 0) (24 + n)) refl refl refl (k - 24) (omega arith))

pub words_7_and_8 : Shown Word 7 2 image (0x00 ∷ 0x00 ∷ 0x00 ∷ 0x00 ∷ [])
words_7_and_8 = words_packed_next 1 (words_from 7) (0x00 ∷ 0x00 ∷ []) (one_word 7 (omega arith)) (omega arith)

pub words_1_and_2 : Shown Word 1 2 image (0x03 ∷ 0xe8 ∷ 0x01 ∷ 0xf4 ∷ [])
words_1_and_2 = words_packed_next 1 (words_from 1) (0x03 ∷ 0xe8 ∷ []) (one_word 1 (omega arith)) (omega arith)

-- ---- stored: in word 1, bits 24 to 31 ..

zeros : (n i : ℕ) → get_or {A = ℕ} (replicate n 0) i 0 ≡ 0
zeros zero i = refl
zeros (suc n) zero = refl
zeros (suc n) (suc i) = zeros n i

pub words_fit : (one two : ℕ) → one < 2 ^ word_bits → two < 2 ^ word_bits → FitIn word_bits (words one two)
words_fit one two Small-one small-two zero = omega arith
words_fit one two Small-one small-two (suc zero) = Small-one
words_fit one two Small-one small-two (suc (suc zero)) = small-two
words_fit one two Small-one small-two (suc (suc (suc i))) = omega (arith, zeros 13 i)

pub bits_of_word_1 : (width bits : ℕ) (run : ℕ → ℕ) → 8 + width ≤ word_bits → ((n : ℕ) → n < width → bit bits n ≡ run n)
    → BitsStored 24 width run image (words (merged 8 width bits 1000) 500)
bits_of_word_1 width bits run inside same =
    stored_in_word image 1 8 width (merged 8 width bits 1000) run (omega arith) inside (words_fit 1000 500 (omega arith) (omega arith))
    (merged_small 8 width bits 1000 word_bits inside (omega arith)) (λ n h. merged_new 8 width bits 1000 n h ∙ same n h)
    (merged_old 8 width bits 1000)

pub bit_24_off : StoredOne Bit 24 off image (words 744 500)
unfolding bit
bit_24_off = bits_of_word_1 1 0 (λ n. 0) (omega arith) (λ n h. ap (bit 0) (lt-one h))

pub bits_24_to_26_set : StoredRun Bit 24 3 (0xfc ∷ []) image (words 1256 500)
unfolding bit bit_among
bits_24_to_26_set = bits_of_word_1 3 0xfc _ (omega arith) (below_3 _ refl refl refl)

-- .. and words

first_word_set : (run : ℕ → ℕ) → WordsStored 1 1 run image (words (run 0) 500)
first_word_set run = words_stored_next 1 0 run image image (words_stored_none 1 run image) (omega arith)

pub word_1_set : (value : ℕ) → StoredOne Word 1 value image (words value 500)
word_1_set value = first_word_set (λ n. value)

pub words_1_and_2_set : StoredRun Word 1 2 (0x12 ∷ 0x34 ∷ 0x56 ∷ 0x78 ∷ []) image (words 0x1234 0x5678)
words_1_and_2_set =
    let run = packed_word (0x12 ∷ 0x34 ∷ 0x56 ∷ 0x78 ∷ []) in
    words_stored_next 1 1 run image (words (run 0) 500) (first_word_set run) (omega arith)
