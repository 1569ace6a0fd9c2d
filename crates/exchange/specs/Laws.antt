-- The laws of both halves together, each proved under its name in proofs/Laws.antt.
-- Assumes nothing.
use Rattle.std.specs.Prelude.{List, Ok, ℕ, ◌≤◌, length, take}
use Rattle.check_word.specs.Frame.{Right}
use Rattle.slave.specs.Numbers.{kind_of}
use Rattle.slave.specs.Answer.{Call, Answer, Answers}
use Rattle.master.specs.declared.Request.{Request}
use Rattle.master.specs.Refusals.{least_room}
use Rattle.master.specs.Building.{Build}
use Rattle.exchange.specs.Terms.{Received, CallNotRefused, GivenToABuiltRequest, Means}

-- a built request has a right check word, and a station at that address whose call is not refused answers it with silence 13,
-- exception 4, 2 or 8, or a normal reply, and with nothing else
pub record BuiltRight : Type 0 where
  pub right : (request : Request) (carried before : List ℕ) (n : ℕ) (after : List ℕ)
      → Build request carried before (Ok n) after → Right (take n after)
  pub answered : (request : Request) (carried : List ℕ) (call : Call) (answer : Answer) → Received request carried call
      → Answers call answer → CallNotRefused answer → GivenToABuiltRequest (kind_of answer.outcome)

-- for every station's settings, areas, image and reply buffer for which the slave's call is not refused: whatever the slave answers
-- to a built request to its address is accepted by reading beside that request, and means what the image held
abbrev pub Understood : Type 0
Understood = (request : Request) (carried : List ℕ) (call : Call) (answer : Answer) → Received request carried call
    → Answers call answer → CallNotRefused answer → (buffer : List ℕ) → least_room ≤ length buffer
    → Means request carried call answer buffer answer.outcome
