-- The step is additive, undoes a doubling, and keeps sixteen bits.
-- Assumes nothing.
use mathlib.Core.Path.{◌≡◌, refl, sym, ap, ap₂, ◌∙◌}
use mathlib.Core.Bool.{Bool, true, false, xor}
use Prim.Native.Nat.{ℕ, zero, suc, ◌+◌, ◌*◌, ◌/◌, ◌%◌, ◌^◌, ◌≤◌, ◌<◌}
use native.Mathlib.Nat.{mod-lt, mul_assoc, mul-div_cancel, mul-one, pow-suc, zero-lt-suc}
use native.Mathlib.Omega.{arith}
use lib.Bits.{bit_xor, xor_comm, xor_zero_r, xor_shifted, xor_lt, xor_shr}
use lib.Dec.{lit<}
use lib.Pow.{split, pow_pos}
use borrow.Author.Tests.{ne_eqb}
use Rattle.check_word.specs.CheckWord.{polynomial, low_bit, corrected, step, steps}
use Rattle.check_word.proofs.Xor.{digit, digit_low, low_xor, half_xor, xor_regroup, xor_swap}

-- ---- additive

-- what is exclusive-ored in
abbrev pub correction : Bool → ℕ
correction true = polynomial
correction false = 0

correction_xor : (x y : Bool) → correction (xor x y) ≡ bit_xor (correction x) (correction y)
unfolding xor
correction_xor true true = refl
correction_xor true false = refl
correction_xor false true = refl
correction_xor false false = refl

pub corrected_is : (x : Bool) (w : ℕ) → corrected x w ≡ bit_xor w (correction x)
unfolding corrected
corrected_is true w = refl
corrected_is false w = sym (xor_zero_r w)

pub step_xor : (a b : ℕ) → step (bit_xor a b) ≡ bit_xor (step a) (step b)
unfolding step
step_xor a b =
    simp (corrected_is, low_xor, half_xor, correction_xor) (xor_regroup (a / 2) (b / 2) (correction (low_bit a)) (correction (low_bit b)))

pub steps_xor : (n a b : ℕ) → steps n (bit_xor a b) ≡ bit_xor (steps n a) (steps n b)
unfolding steps
steps_xor zero a b = refl
steps_xor (suc n) a b = ap (steps n) (step_xor a b) ∙ steps_xor n (step a) (step b)

-- ---- a doubling undone

pub step_double : (m : ℕ) → step (m * 2) ≡ m
unfolding step corrected
step_double m = ap₂ corrected (ne_eqb (m * 2 % 2) 1 (λ e. omega arith)) (mul-div_cancel m (zero-lt-suc 1))

pub steps_shifted : (n m : ℕ) → steps n (m * 2 ^ n) ≡ m
unfolding steps
steps_shifted zero m = mul-one m
steps_shifted (suc n) m =
    ap (λ (x : ℕ). steps n (step x)) (ap (λ (x : ℕ). m * x) (pow-suc 2 n) ∙ sym (mul_assoc m (2 ^ n) 2))
    ∙ ap (steps n) (step_double (m * 2 ^ n)) ∙ steps_shifted n m

-- n steps: the n low bits go through them, and the others move down
pub steps_split : (n x : ℕ) → steps n x ≡ bit_xor (steps n (x % 2 ^ n)) (x / 2 ^ n)
steps_split n x =
    ap (steps n) (sym (split x n) ∙ sym (xor_shifted (x / 2 ^ n) n (x % 2 ^ n) (mod-lt x (pow_pos n))))
    ∙ steps_xor n (x / 2 ^ n * 2 ^ n) (x % 2 ^ n)
    ∙ ap (λ (y : ℕ). bit_xor y (steps n (x % 2 ^ n))) (steps_shifted n (x / 2 ^ n))
    ∙ xor_comm (x / 2 ^ n) (steps n (x % 2 ^ n))

-- n steps of a sum: the n low bits go through them with what is put in, and the others move down
pub steps_mixed : (n w x : ℕ) → steps n (bit_xor w x) ≡ bit_xor (steps n (bit_xor (w % 2 ^ n) x)) (w / 2 ^ n)
steps_mixed n w x =
    steps_xor n w x
    ∙ ap (λ (y : ℕ). bit_xor y (steps n x)) (steps_split n w)
    ∙ xor_swap (steps n (w % 2 ^ n)) (w / 2 ^ n) (steps n x)
    ∙ ap (λ (y : ℕ). bit_xor y (w / 2 ^ n)) (sym (steps_xor n (w % 2 ^ n) x))

-- ---- sixteen bits

corrected_lt : (x : Bool) (h : ℕ) → h < 2 ^ 15 → corrected x h < 2 ^ 16
unfolding corrected
corrected_lt true h k = xor_lt 16 h polynomial (omega arith) (lit< tt)
corrected_lt false h k = omega arith

pub step_lt : (w : ℕ) → w < 2 ^ 16 → step w < 2 ^ 16
unfolding step
step_lt w h = corrected_lt (low_bit w) (w / 2) (omega arith)

pub steps_lt : (n w : ℕ) → w < 2 ^ 16 → steps n w < 2 ^ 16
unfolding steps
steps_lt zero w h = h
steps_lt (suc n) w h = steps_lt n (step w) (step_lt w h)

-- a correction sets the top bit
pub top_set : (h : ℕ) → h < 2 ^ 15 → 2 ^ 15 ≤ bit_xor h polynomial
top_set h k =
    let none : h / 2 ^ 15 ≡ 0 = omega arith in
    let one : bit_xor h polynomial / 2 ^ 15 ≡ 1 = xor_shr h polynomial 15 ∙ ap (λ (x : ℕ). bit_xor x 1) none in
    omega arith

only_shifted : (x : Bool) (h : ℕ) → h < 2 ^ 15 → corrected x h < 2 ^ 15 → corrected x h * 2 ≡ h * 2 + digit x
unfolding corrected
only_shifted true h k l = absurd (omega (arith, top_set h k))
only_shifted false h k l = omega arith

-- so a step that leaves the top bit clear has only shifted, and a 0 out
pub step_clear : (w : ℕ) → w < 2 ^ 16 → step w < 2 ^ 15 → step w * 2 ≡ w
unfolding step
step_clear w h l = omega (arith, only_shifted (low_bit w) (w / 2) (omega arith) l, digit_low w)
