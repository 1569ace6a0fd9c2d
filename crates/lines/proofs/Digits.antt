-- `digit` and `upper`, range by range: digits are apart, and upper case leaves them.
-- Assumes nothing.
use mathlib.Core.Path.{◌≡◌, refl, sym, ◌∙◌}
use Prim.Native.Nat.{ℕ, ◌+◌, ◌-◌, ◌≤◌, ◌<◌}
use native.Mathlib.Decide.{dec_le}
use native.Mathlib.Omega.{arith}
use borrow.Author.Tests.{lt-ltb, le-ltb}
use Rattle.lines.specs.Hex.{blank, digit, upper}

-- ---- digits

digit_low : (d : ℕ) → d < 10 → digit d ≡ 48 + d
digit_low d h = rw (lt-ltb d 10 h)

digit_high : (d : ℕ) → 10 ≤ d → digit d ≡ 55 + d
digit_high d h = rw (le-ltb d 10 h)

-- what follows from either form of a digit, follows
pub digit_cases : (d : ℕ) (P : Type 0) → (d < 10 → digit d ≡ 48 + d → P) → (10 ≤ d → digit d ≡ 55 + d → P) → P
digit_cases d P low high =
    elim (dec_le 10 d) [ yes h ↦ high h (digit_high d h) | no h ↦ low (omega arith) (digit_low d (omega arith)) ]

pub digits_apart : (d e : ℕ) → digit d ≡ digit e → d ≡ e
digits_apart d e s =
    digit_cases d (d ≡ e)
    (λ h t. digit_cases e (d ≡ e) (λ k u. omega arith) (λ k u. omega arith))
    (λ h t. digit_cases e (d ≡ e) (λ k u. omega arith) (λ k u. omega arith))

-- ---- upper case

pub upper_before : (c : ℕ) → c < 97 → upper c ≡ c
unfolding upper
upper_before c h = rw (lt-ltb c 97 h)

pub upper_small : (c : ℕ) → 97 ≤ c → c < 103 → upper c ≡ c - 32
unfolding upper
upper_small c h k = rw (le-ltb c 97 h, lt-ltb c 103 k)

pub upper_past : (c : ℕ) → 103 ≤ c → upper c ≡ c
unfolding upper
upper_past c h = rw (le-ltb c 97 (omega arith), le-ltb c 103 h)

pub upper_blank : upper blank ≡ blank
unfolding upper
upper_blank = refl

-- what is a blank in upper case, is one
pub blank_upper : (c : ℕ) → upper c ≡ blank → c ≡ blank
blank_upper c s =
    elim (dec_le 97 c) [
      | yes h ↦ elim (dec_le 103 c) [
        | yes k ↦ absurd (omega (arith, upper_past c k))
        | no k ↦ absurd (omega (arith, upper_small c h (omega arith)))
      ]
      | no h ↦ sym (upper_before c (omega arith)) ∙ s
    ]

pub upper_digit : (d : ℕ) → d < 16 → upper (digit d) ≡ digit d
upper_digit d h =
    digit_cases d (upper (digit d) ≡ digit d)
    (λ k s. upper_before (digit d) (omega arith))
    (λ k s. upper_before (digit d) (omega arith))
