-- Exclusive-or, on bits and on numbers: what the library lacks. A number is its half and its low bit.
-- Assumes nothing.
use mathlib.Core.Path.{◌≡◌, refl, sym, ap, ◌∙◌}
use mathlib.Core.Bool.{Bool, true, false, xor}
use Prim.Native.Nat.{ℕ, zero, suc, ◌+◌, ◌*◌, ◌/◌, ◌%◌, ◌<◌}
use native.Mathlib.Nat.{mod-lt, zero-lt-suc}
use native.Mathlib.Omega.{arith}
use lib.Arith.{bin_ind}
use lib.Bits.{bit_xor, xor_add_and, xor_shr, xor_comm, xor_self, xor_zero_r}
use lib.Dec.{eqb}
use Rattle.check_word.specs.CheckWord.{low_bit}

abbrev pub digit : Bool → ℕ
digit false = 0
digit true = 1

pub digit_lt : (x : Bool) → digit x < 2
digit_lt false = omega arith
digit_lt true = omega arith

digit_of : (x : ℕ) → x < 2 → digit (eqb x 1) ≡ x
digit_of zero h = refl
digit_of (suc zero) h = refl
digit_of (suc (suc x)) h = absurd (omega arith)

pub digit_low : (a : ℕ) → digit (low_bit a) ≡ a % 2
digit_low a = digit_of (a % 2) (mod-lt a (zero-lt-suc 1))

pub halves : (a : ℕ) → a / 2 * 2 + digit (low_bit a) ≡ a
halves a = omega (arith, digit_low a)

-- ---- half by half, and low bit by low bit

pub half_xor : (a b : ℕ) → bit_xor a b / 2 ≡ bit_xor (a / 2) (b / 2)
half_xor a b = xor_shr a b 1

low_digits : (x y : Bool) → low_bit (digit x + digit y) ≡ xor x y
unfolding xor
low_digits true true = refl
low_digits true false = refl
low_digits false true = refl
low_digits false false = refl

pub low_xor : (a b : ℕ) → low_bit (bit_xor a b) ≡ xor (low_bit a) (low_bit b)
low_xor a b =
    let digits : bit_xor a b % 2 ≡ (digit (low_bit a) + digit (low_bit b)) % 2 = omega (arith, xor_add_and a b, digit_low a, digit_low b) in
    ap (λ (x : ℕ). eqb x 1) digits ∙ low_digits (low_bit a) (low_bit b)

pub digit_xor : (x y : Bool) → digit (xor x y) ≡ bit_xor (digit x) (digit y)
unfolding xor
digit_xor true true = refl
digit_xor true false = refl
digit_xor false true = refl
digit_xor false false = refl

-- ---- grouped anyhow

pub xor_assoc : (a b c : ℕ) → bit_xor (bit_xor a b) c ≡ bit_xor a (bit_xor b c)
xor_assoc =
    bin_ind (λ (a : ℕ). (b c : ℕ) → bit_xor (bit_xor a b) c ≡ bit_xor a (bit_xor b c)) (λ b c. refl)
    (λ a below b c.
    let halved : bit_xor (bit_xor a b) c / 2 ≡ bit_xor a (bit_xor b c) / 2 = simp half_xor (below (b / 2) (c / 2)) in
    omega (arith, xor_add_and (bit_xor a b) c, xor_add_and a b, xor_add_and a (bit_xor b c), xor_add_and b c))

-- two sums of two, regrouped
pub xor_regroup : (a b c d : ℕ) → bit_xor (bit_xor a b) (bit_xor c d) ≡ bit_xor (bit_xor a c) (bit_xor b d)
xor_regroup a b c d =
    xor_assoc a b (bit_xor c d)
    ∙ ap (bit_xor a) (sym (xor_assoc b c d) ∙ ap (λ (x : ℕ). bit_xor x d) (xor_comm b c) ∙ xor_assoc c b d)
    ∙ sym (xor_assoc a c (bit_xor b d))

-- in whichever order two are put in
pub xor_swap : (a b c : ℕ) → bit_xor (bit_xor a b) c ≡ bit_xor (bit_xor a c) b
xor_swap a b c = xor_assoc a b c ∙ ap (bit_xor a) (xor_comm b c) ∙ sym (xor_assoc a c b)

-- what is put in twice goes out again
pub xor_twice : (a b : ℕ) → bit_xor (bit_xor a b) b ≡ a
xor_twice a b = xor_assoc a b b ∙ ap (bit_xor a) (xor_self b) ∙ xor_zero_r a
