-- Tables that decide alike: as long as no line has applied, the next applies in both or in neither.
-- Assumes nothing.
use mathlib.Core.Path.{◌≡◌, refl, ◌∙◌}
use mathlib.Core.Logic.{inl, inr}
use mathlib.Core.List.{List, [], ◌∷◌}
use Rattle.slave.specs.Numbers.{Kind}
use Rattle.slave.specs.Table.{Line, FirstDecides}

abbrev pub Same : List Line → List Line → Type 0
Same [] [] = Unit
Same [] ((kind, When) ∷ ys) = ⊥
Same ((kind, When) ∷ xs) [] = ⊥
Same ((kind, When) ∷ xs) ((kind', When') ∷ ys) = (kind ≡ kind') × (When → When') × (When' → When) × ((When → ⊥) → Same xs ys)

pub same_decides : (xs ys : List Line) (kind : Kind) → Same xs ys → FirstDecides xs kind → FirstDecides ys kind
same_decides [] [] kind same first = first
same_decides [] (y ∷ ys) kind same first = absurd same
same_decides (x ∷ xs) [] kind same first = absurd same
same_decides ((k, When) ∷ xs) ((k', When') ∷ ys) kind (e, to, back, later) (inl (when, is)) = inl (to when, is ∙ e)
same_decides ((k, When) ∷ xs) ((k', When') ∷ ys) kind (e, to, back, later) (inr (not, rest)) =
    inr (λ when. not (back when), same_decides xs ys kind (later not) rest)

-- a line that both tables have
pub same_line : {kind : Kind} {When Later : Type 0} → ((When → ⊥) → Later)
    → (kind ≡ kind) × (When → When) × (When → When) × ((When → ⊥) → Later)
same_line later = (refl, λ applies. applies, λ applies. applies, later)
