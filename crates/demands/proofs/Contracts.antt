-- `Answers`, which the demands are proved of, is what the slave's two calls ensure in the source. Nothing uses this; it is there to
-- be checked.
-- Assumes nothing.
use mathlib.Core.Path.{◌≡◌, refl}
use mathlib.Core.List.{List}
use Prim.Native.Nat.{ℕ}
use seplogic.Ra.Ura.{Ura}
use base.Logic.{SProp}
use prog.Memory.{Memory}
use prog.Routine.{Routine}
use types.Logic.{Logic}
use contract.Monad.{Fun, fact}
use Rattle.areas.specs.declared.Area.{Area}
use Rattle.areas.specs.Calls.{listed}
use Rattle.slave.specs.declared.Station.{Station}
use Rattle.slave.specs.declared.Outcome.{Outcome}
use Rattle.slave.specs.Answer.{Answers}
use Rattle.slave.specs.contracts.respond as respond
use Rattle.slave.proofs.respond_by_value.Reads as by_value

abbrev Allowed : Station → List Area → List ℕ → List ℕ → List ℕ → Outcome → List ℕ → List ℕ → Type 0
Allowed station areas frame image reply outcome image_after reply_after =
    Answers (record { station = station; areas = areas; frame = frame; image = image; reply = reply })
    (record { outcome = outcome; image = image_after; reply = reply_after })

-- the arguments are the station, the areas, the frame, the image and the reply buffer, in this order
respond_answers : {M : Type 1} {𝓤 : Ura M} (𝓛 : Logic 𝓤) (mem : Memory → SProp 𝓤) (run : Routine → Fun 𝓤)
    (κs : _) (args : _) (outcome : Outcome) (left : _)
    → (respond.clauses 𝓛 mem run κs args).ensures tt outcome left
    ≡ fact 𝓤 (Allowed args.0 args.1.0.now args.1.1.0.now args.1.1.1.0.now args.1.1.1.1.0.now outcome
    left.1.1.1.0.now left.1.1.1.1.0.now)
respond_answers 𝓛 mem run κs args outcome left = refl

by_value_answers : (κs : _) (args : _) (outcome : Outcome) (left : _) → by_value.Post κs args outcome left
    → Allowed args.0 (listed args.1.0) args.1.1.0.now args.1.1.1.0.now args.1.1.1.1.0.now outcome
    left.1.1.1.0.now left.1.1.1.1.0.now
by_value_answers κs args outcome left post = post
