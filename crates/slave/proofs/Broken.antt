-- Lists that break a rule are answered alike, whatever else they are: no line past line 3 is asked.
-- Assumes nothing.
use mathlib.Core.Logic.{inl, inr}
use mathlib.Core.List.{List}
use Prim.Native.Nat.{ℕ}
use lib.ListN.{length}
use Rattle.areas.specs.declared.Area.{Area}
use Rattle.slave.specs.declared.Station.{Station}
use Rattle.slave.specs.declared.Outcome.{Outcome}
use Rattle.slave.specs.Numbers.{Kind}
use Rattle.slave.specs.Conditions.{BreaksARule}
use Rattle.slave.specs.Table.{table, FirstDecides}
use Rattle.slave.specs.Answer.{Respond}

module _ (station : Station) (a b : List Area) where
  decided_alike : (words room : ℕ) (frame : List ℕ) (kind : Kind) → BreaksARule a words → BreaksARule b words
      → FirstDecides (table station a words room frame) kind → FirstDecides (table station b words room frame) kind
  decided_alike words room frame kind broken other (inl own) = inl own
  decided_alike words room frame kind broken other (inr (own, inl image)) = inr (own, inl image)
  decided_alike words room frame kind broken other (inr (own, inr (image, inl (breaks, given)))) =
      inr (own, inr (image, inl (other, given)))
  decided_alike words room frame kind broken other (inr (own, inr (image, inr (kept, later)))) = absurd (kept broken)

  pub broken_alike : (frame image reply : List ℕ) (outcome : Outcome) (image_after reply_after : List ℕ)
      → BreaksARule a (length image) → BreaksARule b (length image)
      → Respond station a frame image reply outcome image_after reply_after
      → Respond station b frame image reply outcome image_after reply_after
  broken_alike frame image reply outcome image_after reply_after broken other answers = record {
    decided = decided_alike (length image) (length reply) frame _ broken other answers.decided;
    left = answers.left;
  }
