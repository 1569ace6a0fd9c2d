-- The bits of a number: under a remainder, a quotient and a sum of parts, and that they determine the number.
-- Assumes nothing.
use mathlib.Core.Path.{◌≡◌, sym, ap, ap₂, ◌∙◌}
use Prim.Native.Nat.{ℕ, zero, suc, ◌+◌, ◌-◌, ◌*◌, ◌/◌, ◌%◌, ◌^◌, ◌≤◌, ◌<◌, zero-le, suc-le-suc}
use native.Mathlib.Nat.{div-one, div-eq_of_lt, div-add-mod', lt_of_lt_of_le, pow-le-pow_right}
use native.Mathlib.Omega.{arith}
use lib.Arith.{lt-one}
use lib.Pow.{high, low, field, mod-mod-pow, shr-shr}
use Rattle.registers.specs.Memory.{bit}

-- ---- parts of a number

-- past the bits that a number has
pub bit_past : (m n p : ℕ) → n < 2 ^ m → m ≤ p → bit n p ≡ 0
unfolding bit
bit_past m n p small h = ap (λ (x : ℕ). x % 2) (div-eq_of_lt (lt_of_lt_of_le small (pow-le-pow_right (suc-le-suc zero-le) h)))

-- the bits from bit m on
pub bit_shifted : (m n p : ℕ) → bit (n / 2 ^ m) p ≡ bit n (m + p)
unfolding bit
bit_shifted m n p = ap (λ (x : ℕ). x % 2) (shr-shr n m p)

-- the bits below bit m
pub bit_low : (m n p : ℕ) → p < m → bit (n % 2 ^ m) p ≡ bit n p
unfolding bit
bit_low m n p h =
    let d : ℕ = m - p - 1 in
    let e : m ≡ (d + 1) + p = omega arith in
    ap (λ (k : ℕ). n % 2 ^ k / 2 ^ p % 2) e ∙ ap (λ (x : ℕ). x % 2) (field n (d + 1) p) ∙ mod-mod-pow (n / 2 ^ p) d 1

-- of two parts, the low one below bit m
pub bit_under : (m hi lo p : ℕ) → lo < 2 ^ m → p < m → bit (hi * 2 ^ m + lo) p ≡ bit lo p
bit_under m hi lo p small h = sym (bit_low m (hi * 2 ^ m + lo) p h) ∙ ap (λ (x : ℕ). bit x p) (low hi m small)

pub bit_over : (m hi lo p : ℕ) → lo < 2 ^ m → bit (hi * 2 ^ m + lo) (m + p) ≡ bit hi p
bit_over m hi lo p small = sym (bit_shifted m (hi * 2 ^ m + lo) p) ∙ ap (λ (x : ℕ). bit x p) (high hi m small)

-- ---- a number is its bits

pub bit_ext : (w a b : ℕ) → a < 2 ^ w → b < 2 ^ w → ((p : ℕ) → p < w → bit a p ≡ bit b p) → a ≡ b
unfolding bit
bit_ext zero a b ha hb same = lt-one ha ∙ sym (lt-one hb)
bit_ext (suc w) a b ha hb same =
    let half : (n : ℕ) → n < 2 ^ suc w → n / 2 < 2 ^ w = λ n h. omega arith in
    let halves : a / 2 ≡ b / 2 =
    bit_ext w (a / 2) (b / 2) (half a ha) (half b hb)
    (λ p h. bit_shifted 1 a p ∙ same (1 + p) (omega arith) ∙ sym (bit_shifted 1 b p)) in
    let lowest : (n : ℕ) → n / 2 ^ 0 % 2 ≡ n % 2 = λ n. ap (λ (x : ℕ). x % 2) (div-one n) in
    let odd : a % 2 ≡ b % 2 = sym (lowest a) ∙ same 0 (suc-le-suc zero-le) ∙ lowest b in
    sym (div-add-mod' a 2) ∙ ap₂ (λ (x y : ℕ). x * 2 + y) halves odd ∙ div-add-mod' b 2
