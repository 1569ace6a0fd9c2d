-- Bytes in hex, a blank before each: how long, and one behind the other.
-- Assumes nothing.
use mathlib.Core.Path.{◌≡◌, refl, ap}
use mathlib.Core.List.{List, [], ◌∷◌, ◌++◌}
use Prim.Native.Nat.{ℕ, ◌*◌, ◌/◌, ◌%◌}
use native.Mathlib.Omega.{arith}
use lib.ListN.{length}
use Rattle.lines.specs.Hex.{blank, digit, spaced}

pub length_spaced : (xs : List ℕ) → length (spaced xs) ≡ 3 * length xs
unfolding spaced
length_spaced [] = refl
length_spaced (x ∷ rest) = omega (arith, length_spaced rest)

pub spaced_append : (xs ys : List ℕ) → spaced (xs ++ ys) ≡ spaced xs ++ spaced ys
unfolding spaced
spaced_append [] ys = refl
spaced_append (x ∷ rest) ys = ap (λ (t : List ℕ). blank ∷ digit (x / 16) ∷ digit (x % 16) ∷ t) (spaced_append rest ys)
