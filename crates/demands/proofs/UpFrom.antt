-- Numbers that stand one behind the other.
-- Assumes nothing.
use mathlib.Core.Path.{◌≡◌, ◌∙◌}
use mathlib.Core.List.{List, [], ◌∷◌}
use Prim.Native.Nat.{ℕ, zero, suc, ◌+◌, ◌<◌}
use native.Mathlib.Omega.{arith}
use lib.ListN.{get_or}

-- `count` numbers from `first` on
abbrev pub up_from : ℕ → ℕ → List ℕ
up_from first zero = []
up_from first (suc count) = first ∷ up_from (suc first) count

pub number_up : (first count n default : ℕ) → n < count → get_or (up_from first count) n default ≡ first + n
number_up first zero n default h = absurd (omega arith)
number_up first (suc count) zero default h = omega arith
number_up first (suc count) (suc n) default h = number_up (suc first) count n default (omega arith) ∙ omega arith
