-- The first line that applies refuses, and with one number; where none applies nothing is refused.
-- Assumes nothing.
use mathlib.Core.Path.{sym, ◌∙◌}
use mathlib.Core.Logic.{inl, inr}
use mathlib.Core.List.{List, [], ◌∷◌}
use Prim.Native.Nat.{ℕ}
use Rattle.promise.specs.Promise.{Determined}
use Rattle.master.specs.Refusals.{Line, RefusedBy, NotRefused}

pub refused_determined : (lines : List Line) → Determined (RefusedBy lines)
refused_determined [] a b p q = absurd p
refused_determined ((given, When) ∷ lines) a b (inl p) (inl q) = p.1 ∙ sym q.1
refused_determined ((given, When) ∷ lines) a b (inl p) (inr q) = absurd (q.0 p.0)
refused_determined ((given, When) ∷ lines) a b (inr p) (inl q) = absurd (p.0 q.0)
refused_determined ((given, When) ∷ lines) a b (inr p) (inr q) = refused_determined lines a b p.1 q.1

pub refused_or_not : (lines : List Line) (number : ℕ) → RefusedBy lines number → NotRefused lines → ⊥
refused_or_not [] number refused none = refused
refused_or_not ((given, When) ∷ lines) number (inl here) none = none.0 here.0
refused_or_not ((given, When) ∷ lines) number (inr later) none = refused_or_not lines number later.1 none.1
