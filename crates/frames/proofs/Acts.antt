-- What a function does is one thing alone.
-- Assumes nothing.
use mathlib.Core.Path.{◌≡◌, sym, ap, ◌∙◌}
use Prim.Native.Nat.{ℕ}
use Rattle.frames.specs.declared.Act.{Act}
use Rattle.frames.specs.declared.Act.TheVariants.{Read, WriteOne, WriteRun}

abbrev pub place : Act → ℕ
place Read = 0
place WriteOne = 1
place WriteRun = 2

pub acts_apart : {act a b : Act} → act ≡ a → (place a ≡ place b → ⊥) → act ≡ b → ⊥
acts_apart is differ e = differ (ap place (sym is ∙ e))
