-- The check word of bytes and that of line bits are one: a word fed with numbers of n bits, n being 8 or 1.
-- Assumes nothing.
use mathlib.Core.Path.{◌≡◌, refl, ap, ◌∙◌}
use mathlib.Core.List.{List, [], ◌∷◌, ◌++◌}
use Prim.Native.Nat.{ℕ, suc}
use native.Mathlib.Omega.{arith}
use lib.Bits.{bit_xor}
use lib.ListN.{length}
use Rattle.check_word.specs.CheckWord.{steps, add_byte, add_bytes, sum}
use Rattle.check_word.proofs.Xor.{xor_regroup}
use Rattle.check_word.proofs.Step.{steps_xor}

-- each number is exclusive-ored in, and n steps follow
unfoldable pub fed : ℕ → ℕ → List ℕ → ℕ
fed n w [] = w
fed n w (x ∷ xs) = fed n (steps n (bit_xor w x)) xs

pub add_bytes_fed : (w : ℕ) (bs : List ℕ) → add_bytes w bs ≡ fed 8 w bs
unfolding add_bytes add_byte fed
add_bytes_fed w [] = refl
add_bytes_fed w (b ∷ bs) = add_bytes_fed (steps 8 (bit_xor w b)) bs

pub fed_append : (n w : ℕ) (xs ys : List ℕ) → fed n w (xs ++ ys) ≡ fed n (fed n w xs) ys
unfolding fed
fed_append n w [] ys = refl
fed_append n w (x ∷ xs) ys = fed_append n (steps n (bit_xor w x)) xs ys

-- additive, as each number is
pub fed_sum : (n : ℕ) (xs ys : List ℕ) (v w : ℕ) → length xs ≡ length ys
    → fed n (bit_xor v w) (sum xs ys) ≡ bit_xor (fed n v xs) (fed n w ys)
unfolding fed sum
fed_sum n [] [] v w h = refl
fed_sum n [] (y ∷ ys) v w h = absurd (omega arith)
fed_sum n (x ∷ xs) [] v w h = absurd (omega arith)
fed_sum n (x ∷ xs) (y ∷ ys) v w h =
    ap (λ (z : ℕ). fed n z (sum xs ys)) (ap (steps n) (xor_regroup v w x y) ∙ steps_xor n (bit_xor v x) (bit_xor w y))
    ∙ fed_sum n xs ys (steps n (bit_xor v x)) (steps n (bit_xor w y)) (omega arith)

pub length_sum : (xs ys : List ℕ) → length xs ≡ length ys → length (sum xs ys) ≡ length ys
unfolding sum
length_sum [] [] h = refl
length_sum [] (y ∷ ys) h = absurd (omega arith)
length_sum (x ∷ xs) [] h = refl
length_sum (x ∷ xs) (y ∷ ys) h = ap suc (length_sum xs ys (omega arith))
