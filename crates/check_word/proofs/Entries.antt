-- The table: one computed test ties every entry to its number.
-- Assumes nothing.
use mathlib.Core.Path.{◌≡◌, refl, ◌∙◌}
use mathlib.Core.Bool.{Bool, true, false}
use mathlib.Core.List.{List, [], ◌∷◌}
use Prim.Native.Nat.{ℕ, zero, suc, ◌+◌, ◌<◌}
use native.Mathlib.Omega.{arith}
use lib.Dec.{eqb}
use lib.ListN.{get_or, length}
use Rattle.std.proofs.lemmas.Bool.{eqb-true}
use Rattle.check_word.specs.Back.{steps_back}

abbrev pub both : Bool → Bool → Bool
both true b = b
both false b = false

-- eight steps back lead from each entry to its number, counted from n on
abbrev pub counts : ℕ → List ℕ → Bool
counts n [] = true
counts n (x ∷ xs) = both (eqb (steps_back 8 x) n) (counts (suc n) xs)

first : (a b : Bool) → both a b ≡ true → a ≡ true
first true b e = refl
first false b e = e

rest : (a b : Bool) → both a b ≡ true → b ≡ true
rest true b e = e
rest false b e = grind (arith, e)

pub counted : (n : ℕ) (xs : List ℕ) → counts n xs ≡ true → (i : ℕ) → i < length xs → steps_back 8 (get_or xs i 0) ≡ n + i
counted n [] e i h = absurd (omega (arith, h))
counted n (x ∷ xs) e zero h = eqb-true (steps_back 8 x) n (first _ _ e) ∙ omega arith
counted n (x ∷ xs) e (suc i) h = counted (suc n) xs (rest _ _ e) i (omega (arith, h)) ∙ omega arith

pub entry_back : (xs : List ℕ) → counts 0 xs ≡ true → (i : ℕ) → i < length xs → steps_back 8 (get_or xs i 0) ≡ i
entry_back xs e i h = counted 0 xs e i h ∙ omega arith
