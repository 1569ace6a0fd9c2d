-- Places before a run, in it, and behind it.
-- Assumes nothing.
use mathlib.Core.Path.{◌≡◌}
use mathlib.Core.Logic.{◌⊎◌, inl, inr}
use Prim.Native.Nat.{ℕ, ◌+◌, ◌-◌, ◌≤◌, ◌<◌}
use native.Mathlib.Nat.{lt_of_not-le}
use native.Mathlib.Decide.{dec_le}
use native.Mathlib.Omega.{arith}
use Rattle.registers.specs.Storing.{Outside}

pub lt_or_le : (a b : ℕ) → (a < b) ⊎ (b ≤ a)
lt_or_le a b = elim (dec_le b a) [ yes h ↦ inr h | no h ↦ inl (lt_of_not-le h) ]

-- what holds of each place of the run, and of each outside it, holds everywhere
pub everywhere : (first count : ℕ) (P : ℕ → Type 0) → ((n : ℕ) → n < count → P (first + n)) → ((k : ℕ) → Outside first count k → P k)
    → (k : ℕ) → P k
everywhere first count P inside outside k =
    elim (lt_or_le k first) [
      | inl l ↦ outside k (inl l)
      | inr l ↦ elim (lt_or_le k (first + count)) [
        | inl m ↦ let e : first + (k - first) ≡ k = omega arith in rw e at (inside (k - first) (omega arith))
        | inr m ↦ outside k (inr (omega arith))
      ]
    ]
