-- Steps undo steps back, and a step back undoes a step of a word of sixteen bits.
-- Assumes nothing.
use mathlib.Core.Path.{◌≡◌, refl, ap, ap₂, ◌∙◌}
use mathlib.Core.Bool.{Bool, true, false}
use Prim.Native.Nat.{ℕ, zero, suc, ◌+◌, ◌*◌, ◌/◌, ◌%◌, ◌^◌, ◌<◌}
use native.Mathlib.Omega.{arith}
use lib.Bits.{bit_xor}
use lib.Dec.{leb}
use borrow.Author.Tests.{eq-eqb, le-leb, lt-leb}
use Rattle.check_word.specs.CheckWord.{polynomial, corrected, step, steps}
use Rattle.check_word.specs.Back.{uncorrected, step_back, steps_back}
use Rattle.check_word.proofs.Xor.{xor_twice}
use Rattle.check_word.proofs.Step.{step_double, top_set}

-- ---- steps after steps back

step_double_and_one : (m : ℕ) → step (m * 2 + 1) ≡ bit_xor m polynomial
unfolding step corrected
step_double_and_one m =
    let half : (m * 2 + 1) / 2 ≡ m = omega arith in
    ap₂ corrected (eq-eqb ((m * 2 + 1) % 2) 1 (omega arith)) half

step_uncorrected : (x : Bool) (w : ℕ) → step (uncorrected x w) ≡ w
step_uncorrected true w = step_double_and_one (bit_xor w polynomial) ∙ xor_twice w polynomial
step_uncorrected false w = step_double w

steps_then_step : (n w : ℕ) → steps (suc n) w ≡ step (steps n w)
unfolding steps
steps_then_step zero w = refl
steps_then_step (suc n) w = steps_then_step n (step w)

pub steps_steps_back : (n w : ℕ) → steps n (steps_back n w) ≡ w
unfolding steps
steps_steps_back zero w = refl
steps_steps_back (suc n) w =
    steps_then_step n (steps_back n (step_back w)) ∙ ap step (steps_steps_back n (step_back w)) ∙ step_uncorrected (leb 0x8000 w) w

-- ---- a step back after a step

-- a 0 was shifted out
pub step_back_even : (w : ℕ) → w < 2 ^ 16 → w % 2 ≡ 0 → step_back (w / 2) ≡ w
step_back_even w h e = ap (λ (x : Bool). uncorrected x (w / 2)) (lt-leb 0x8000 (w / 2) (omega arith)) ∙ omega arith

-- a 1 was shifted out, and the correction set the top bit
pub step_back_odd : (w : ℕ) → w < 2 ^ 16 → w % 2 ≡ 1 → step_back (bit_xor (w / 2) polynomial) ≡ w
step_back_odd w h e =
    let word = bit_xor (w / 2) polynomial in
    ap (λ (x : Bool). uncorrected x word) (le-leb 0x8000 word (top_set (w / 2) (omega arith)))
    ∙ ap (λ (x : ℕ). x * 2 + 1) (xor_twice (w / 2) polynomial) ∙ omega arith
