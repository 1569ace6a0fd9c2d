-- The cases of an enum are different: each has a place of its own.
-- Assumes nothing.
use mathlib.Core.Path.{◌≡◌, ap, ◌∙◌, sym}
use Prim.Native.Nat.{ℕ}
use Rattle.std.specs.Prelude.{Option, Some, None}
use Rattle.frames.specs.declared.Act.{Act}
use Rattle.frames.specs.declared.Act.TheVariants.{Read, WriteOne, WriteRun}
use Rattle.frames.specs.declared.Width.{Width}
use Rattle.frames.specs.declared.Width.TheVariants.{Bit, Word}
use Rattle.slave.specs.declared.Counting.{Counting}
use Rattle.slave.specs.declared.Counting.TheVariants.{ModBus, JBus}
use Rattle.slave.specs.declared.State.{State}
use Rattle.slave.specs.declared.State.TheVariants.{Ready, NotReady, AtTheKeyboard}
use Rattle.slave.specs.Numbers.{Kind, refused, silence, exception, accepted}

abbrev pub act_place : Act → ℕ
act_place Read = 0
act_place WriteOne = 1
act_place WriteRun = 2

abbrev pub width_place : Width → ℕ
width_place Bit = 0
width_place Word = 1

abbrev pub lookup_place : Option (Act × Width) → ℕ
lookup_place (Some line) = 0
lookup_place None = 1

abbrev pub counting_place : Counting → ℕ
counting_place ModBus = 0
counting_place JBus = 1

abbrev pub state_place : State → ℕ
state_place Ready = 0
state_place NotReady = 1
state_place AtTheKeyboard = 2

abbrev pub kind_place : Kind → ℕ
kind_place (refused n) = 0
kind_place (silence n) = 1
kind_place (exception n) = 2
kind_place accepted = 3

-- what has two places is not there
pub apart : {Case : Type 0} (place : Case → ℕ) {x a b : Case} → x ≡ a → x ≡ b → (place a ≡ place b → ⊥) → ⊥
apart place p q differ = differ (ap place (sym p ∙ q))
