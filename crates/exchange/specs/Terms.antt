-- The words that the laws of an exchange are stated with.
-- Assumes nothing.
use Rattle.std.specs.Prelude.{◌≡◌, ◌⊎◌, ◌≢◌, List, [], Result, Ok, ℕ, length, take}
use Rattle.frames.specs.declared.Act.{Act}
use Rattle.frames.specs.declared.Act.TheVariants.{Read, WriteOne, WriteRun}
use Rattle.slave.specs.declared.Refusal.{Refusal}
use Rattle.slave.specs.declared.Outcome.{Outcome}
use Rattle.slave.specs.Numbers.{Kind, silence, exception, accepted}
use Rattle.slave.specs.Conditions.{counted_from0}
use Rattle.slave.specs.Answer.{Shown, over, Call, Answer}
use Rattle.demands.specs.Terms.{sent, SetsExactly, one_datum, run_data}
use Rattle.master.specs.declared.Request.{Request}
use Rattle.master.specs.declared.Refusal as master
use Rattle.master.specs.declared.Reading.{Reading}
use Rattle.master.specs.declared.Reading.TheVariants.{Data, Written, Exception}
use Rattle.master.specs.Requests.{act, width}
use Rattle.master.specs.Building.{Build}
use Rattle.master.specs.Reading.{ReadReply}

-- a request was built, and a station at its address receives it
pub record Received (request : Request) (carried : List ℕ) (call : Call) : Type 0 where
  pub before : List ℕ
  pub n : ℕ
  pub after : List ℕ
  pub built : Build request carried before (Ok n) after
  pub frame : call.frame ≡ take n after
  pub address : call.station.own ≡ request.station

-- the slave's call is not refused
abbrev pub CallNotRefused : Answer → Type 0
CallNotRefused answer = (why : Refusal) → answer.outcome ≢ Outcome.Refused why

-- silence 13, exception 4, 2 or 8, or a normal reply
abbrev pub GivenToABuiltRequest : Kind → Type 0
GivenToABuiltRequest kind =
    (kind ≡ silence 13) ⊎ (kind ≡ exception 4) ⊎ (kind ≡ exception 2) ⊎ (kind ≡ exception 8) ⊎ (kind ≡ accepted)

-- beside the request this is read from the reply, and nothing else, into a buffer that then starts with these bytes
pub record ReadAs (request : Request) (reply buffer : List ℕ) (reading : Reading) (bytes : List ℕ) : Type 0 where
  pub is_read : ReadReply request reply buffer (Ok reading) (over bytes buffer)
  pub nothing_else : (other : Result Reading master.Refusal) (after : List ℕ) → ReadReply request reply buffer other after
      → (other ≡ Ok reading) × (after ≡ over bytes buffer)

-- the first address that a request names, by the station's counting
abbrev pub first_named : Request → Call → ℕ
first_named request call = counted_from0 call.station.counting request.start

-- what a normal reply means, by what the request does: the bits or words that the image held at the addressed places are read, and
-- it holds them still; or the write is read to be done, and the image holds the written data there, and elsewhere what it held
abbrev pub MeansBy : Act → Request → List ℕ → Call → Answer → List ℕ → Type 0
MeansBy Read request carried call answer buffer =
    (shown : List ℕ) × Shown (width request) (first_named request call) request.operand call.image shown
    × ReadAs request (sent answer) buffer (Data (length shown)) shown × (answer.image ≡ call.image)
MeansBy WriteOne request carried call answer buffer =
    ReadAs request (sent answer) buffer Written []
    × SetsExactly (width request) (first_named request call) 1 (one_datum (width request) request.operand)
    call.image answer.image
MeansBy WriteRun request carried call answer buffer =
    ReadAs request (sent answer) buffer Written []
    × SetsExactly (width request) (first_named request call) request.operand (run_data (width request) carried)
    call.image answer.image

-- what an answer means to the master: a silence is no reply, an exception yields the slave's code, and neither has changed the image
abbrev pub Means : Request → List ℕ → Call → Answer → List ℕ → Outcome → Type 0
Means request carried call answer buffer (Outcome.Refused why) = ⊥
Means request carried call answer buffer (Outcome.Silent why) = (sent answer ≡ []) × (answer.image ≡ call.image)
Means request carried call answer buffer (Outcome.Exception code) =
    ReadAs request (sent answer) buffer (Exception code) [] × (answer.image ≡ call.image)
Means request carried call answer buffer (Outcome.Reply n) = MeansBy (act request) request carried call answer buffer
