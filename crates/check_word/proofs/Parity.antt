-- The parity of a word's 1 bits. A step keeps it, since the polynomial has three; so an odd number of bits never leaves 0.
-- Assumes nothing.
use mathlib.Core.Path.{◌≡◌, refl, ap}
use mathlib.Core.Bool.{Bool, true, false}
use mathlib.Core.List.{List, [], ◌∷◌}
use Prim.Native.Nat.{ℕ, suc, ◌+◌, ◌*◌, ◌/◌, ◌%◌}
use native.Mathlib.Omega.{arith}
use lib.Arith.{bin_ind}
use lib.Bits.{bit_xor, bit_and, xor_add_and, and_shr}
use lib.Count.{ones, ones_in, ones_step, ones_cat}
use lib.Dec.{lit<}
use lib.ListN.{length}
use Rattle.check_word.specs.CheckWord.{low_bit, step, steps}
use Rattle.check_word.specs.Line.{ones_at, OddInNumber}
use Rattle.check_word.proofs.Xor.{digit, digit_low, half_xor}
use Rattle.check_word.proofs.Step.{correction, corrected_is}
use Rattle.check_word.proofs.Fed.{fed}
use Rattle.check_word.proofs.Line.{fed_bits}

-- the 1 bits of an exclusive-or: those of both, but for the pairs that cancel
ones_xor : (a b : ℕ) → ones (bit_xor a b) + ones (bit_and a b) * 2 ≡ ones a + ones b
unfolding ones
ones_xor =
    bin_ind (λ (a : ℕ). (b : ℕ) → ones (bit_xor a b) + ones (bit_and a b) * 2 ≡ ones a + ones b) (λ b. omega arith)
    (λ a below b.
    let halved : ones (bit_xor a b / 2) + ones (bit_and a b / 2) * 2 ≡ ones (a / 2) + ones (b / 2) = rw (half_xor, and_shr a b 1) (below (b / 2)) in
    omega (
      arith,
      ones_step (bit_xor a b),
      ones_step (bit_and a b),
      ones_step a,
      ones_step b,
      xor_add_and a b,
      xor_add_and (a / 2) (b / 2),
      half_xor a b,
      and_shr a b 1,
    ))

ones_correction : (x : Bool) → ones (correction x) ≡ digit x * 3
unfolding ones ones_in
ones_correction true = ones_cat 13 5 1 (lit< tt)
ones_correction false = refl

parity_step : (w : ℕ) → ones (step w) % 2 ≡ ones w % 2
unfolding step
parity_step w =
    rw corrected_is (omega (arith, ones_xor (w / 2) (correction (low_bit w)), ones_correction (low_bit w), digit_low w, ones_step w))

ones_digit : (x : Bool) → ones (digit x) ≡ digit x
unfolding ones ones_in
ones_digit true = refl
ones_digit false = refl

length-ones_at : (x : Bool) (xs : List Bool) (k : ℕ) → length (ones_at k (x ∷ xs)) ≡ digit x + length (ones_at (suc k) xs)
unfolding ones_at
length-ones_at true xs k = omega arith
length-ones_at false xs k = omega arith

-- each 1 bit that is fed turns the parity
parity_fed : (xs : List Bool) (k w : ℕ) → ones (fed_bits w xs) % 2 ≡ (ones w + length (ones_at k xs)) % 2
unfolding fed steps ones_at
parity_fed [] k w = omega arith
parity_fed (x ∷ xs) k w =
    let mixed = bit_xor w (digit x) in
    let turned : ones (step mixed) % 2 ≡ (ones w + digit x) % 2 = omega (arith, parity_step mixed, ones_xor w (digit x), ones_digit x) in
    omega (arith, parity_fed xs (suc k) (step mixed), length-ones_at x xs k)

pub odd_never_zero : (xs : List Bool) (k : ℕ) → OddInNumber (ones_at k xs) → fed_bits 0 xs ≡ 0 → ⊥
unfolding ones
odd_never_zero xs k o e = omega (arith, parity_fed xs k 0, ap ones e)
