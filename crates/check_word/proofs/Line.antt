-- The word fed with line bits: as with the bytes, and additive in the differences.
-- Assumes nothing.
use mathlib.Core.Path.{◌≡◌, refl, sym, ap, ap₂, ◌∙◌}
use mathlib.Core.Bool.{Bool}
use mathlib.Core.List.{List, [], ◌∷◌, map, map-append}
use Prim.Native.Nat.{ℕ, zero, suc, ◌*◌, ◌/◌, ◌^◌, ◌≤◌, ◌<◌}
use native.Mathlib.Numerals.{add-one}
use native.Mathlib.Omega.{arith}
use lib.Arith.{lt-one}
use lib.Bits.{bit_xor, xor_comm, xor_zero_r, xor_shifted}
use lib.ListN.{length, length-append, length-map}
use lib.Pow.{shr_lt}
use Rattle.check_word.specs.CheckWord.{low_bit, step, steps, sum}
use Rattle.check_word.specs.Frame.{Bytes}
use Rattle.check_word.specs.Line.{bits, line_bits, differences}
use Rattle.check_word.proofs.Xor.{digit, digit_lt, digit_xor, halves, xor_assoc}
use Rattle.check_word.proofs.Step.{step_xor, step_double}
use Rattle.check_word.proofs.Fed.{fed, fed_append, fed_sum}

-- the word w after the bits
abbrev pub fed_bits : ℕ → List Bool → ℕ
fed_bits w xs = fed 1 w (map digit xs)

-- ---- byte by byte is bit by bit

-- a number put in at once, or its low bit before the step and the rest after it
step_in : (w b : ℕ) → step (bit_xor w b) ≡ bit_xor (step (bit_xor w (digit (low_bit b)))) (b / 2)
step_in w b =
    let d = digit (low_bit b) in
    let b-is : bit_xor d (b / 2 * 2) ≡ b = xor_comm d (b / 2 * 2) ∙ xor_shifted (b / 2) 1 d (digit_lt (low_bit b)) ∙ halves b in
    ap (λ (x : ℕ). step (bit_xor w x)) (sym b-is)
    ∙ ap step (sym (xor_assoc w d (b / 2 * 2)))
    ∙ step_xor (bit_xor w d) (b / 2 * 2)
    ∙ ap (bit_xor (step (bit_xor w d))) (step_double (b / 2))

fed_number : (n w b : ℕ) → b < 2 ^ n → fed_bits w (bits n b) ≡ steps n (bit_xor w b)
unfolding fed bits steps
fed_number zero w b h = sym (ap (bit_xor w) (lt-one h) ∙ xor_zero_r w)
fed_number (suc n) w b h =
    fed_number n (step (bit_xor w (digit (low_bit b)))) (b / 2) (shr_lt n 1 (rw add-one h))
    ∙ ap (steps n) (sym (step_in w b))

pub fed_line : (w : ℕ) (bs : List ℕ) → Bytes bs → fed 8 w bs ≡ fed_bits w (line_bits bs)
unfolding fed line_bits
fed_line w [] h = refl
fed_line w (b ∷ bs) h =
    fed_line (steps 8 (bit_xor w b)) bs (λ i. h (suc i))
    ∙ ap (λ (x : ℕ). fed_bits x (line_bits bs)) (sym (fed_number 8 w b (h 0)))
    ∙ sym (ap (fed 1 w) (map-append digit (bits 8 b) (line_bits bs)) ∙ fed_append 1 w (map digit (bits 8 b)) (map digit (line_bits bs)))

-- ---- two words fed with two runs of bits differ as a word fed with the differences

digits_differ : (xs ys : List Bool) → map digit (differences xs ys) ≡ sum (map digit xs) (map digit ys)
unfolding differences sum
digits_differ [] ys = refl
digits_differ (x ∷ xs) [] = refl
digits_differ (x ∷ xs) (y ∷ ys) = ap₂ (λ (z : ℕ) (zs : List ℕ). z ∷ zs) (digit_xor x y) (digits_differ xs ys)

pub fed_differences : (xs ys : List Bool) (v w : ℕ) → length xs ≡ length ys
    → fed_bits (bit_xor v w) (differences xs ys) ≡ bit_xor (fed_bits v xs) (fed_bits w ys)
fed_differences xs ys v w h =
    ap (fed 1 (bit_xor v w)) (digits_differ xs ys)
    ∙ fed_sum 1 (map digit xs) (map digit ys) v w (length-map xs digit ∙ h ∙ sym (length-map ys digit))

-- ---- lengths

length_bits : (n b : ℕ) → length (bits n b) ≡ n
unfolding bits
length_bits zero b = refl
length_bits (suc n) b = ap suc (length_bits n (b / 2))

pub length_line : (bs : List ℕ) → length (line_bits bs) ≡ 8 * length bs
unfolding line_bits
length_line [] = refl
length_line (b ∷ bs) = omega (arith, length-append (bits 8 b) (line_bits bs), length_bits 8 b, length_line bs)

pub length_differences : (xs ys : List Bool) → length (differences xs ys) ≤ length xs
unfolding differences
length_differences [] ys = omega arith
length_differences (x ∷ xs) [] = omega arith
length_differences (x ∷ xs) (y ∷ ys) = omega (arith, length_differences xs ys)
