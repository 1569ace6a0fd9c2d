-- For the contracts of private functions alone; no public promise cites it. A decision, and the lines of the table from one on.
-- Assumes nothing.
use Rattle.std.specs.Prelude.{◌≡◌, List, Option, Some, None, ℕ, ◌+◌, ◌/◌, ◌%◌, length, drop}
use Rattle.registers.specs.Memory.{word_bits}
use Rattle.areas.specs.Holding.{InNoArea, OfAreaWith}
use Rattle.areas.specs.Verdicts.{Judged}
use Rattle.areas.specs.Calls.{Survey}
use Rattle.areas.specs.declared.Access.TheVariants.{ReadOnly}
use Rattle.areas.specs.declared.Area.{Area}
use Rattle.areas.specs.declared.Run.{Run}
use Rattle.areas.specs.declared.Verdict.{Verdict}
use Rattle.areas.specs.declared.Verdict.TheVariants.{SomeInNoArea, SomeReadOnly, AllReadWrite}
use Rattle.frames.specs.declared.Act.{Act}
use Rattle.frames.specs.declared.Act.TheVariants.{Read, WriteOne, WriteRun}
use Rattle.frames.specs.declared.Code.TheVariants as Code
use Rattle.frames.specs.declared.Width.{Width}
use Rattle.frames.specs.declared.Width.TheVariants.{Bit, Word}
use Rattle.frames.specs.Exceptions.{code_number}
use Rattle.frames.specs.Fields.{function_field}
use Rattle.frames.specs.Functions.{function_of}
use Rattle.frames.specs.Limits.{quantity}
use Rattle.slave.specs.declared.Station.{Station}
use Rattle.slave.specs.declared.Outcome.{Outcome}
use Rattle.slave.specs.declared.decide.Request.{Request}
use Rattle.slave.specs.declared.decide.Decision.{Decision}
use Rattle.slave.specs.declared.decide.Decision.TheVariants.{Refused, Silent, Exception, Accepted}
use Rattle.slave.specs.Numbers.{Kind, refused, silence, exception, accepted, refusal_number, silence_number}
use Rattle.slave.specs.Conditions.{first_addressed}
use Rattle.slave.specs.Table.{Line, FirstDecides, table}
use Rattle.slave.specs.Answer.{Respond}

abbrev pub kind_decided : Decision → Kind
kind_decided (Refused why) = refused (refusal_number why)
kind_decided (Silent why) = silence (silence_number why)
kind_decided (Exception code) = exception (code_number code)
kind_decided (Accepted request) = accepted

-- a request has the frame's fields
pub record Reads (station : Station) (frame : List ℕ) (request : Request) : Type 0 where
  pub function : function_of (function_field frame) ≡ Some (request.act, request.width)
  pub first : request.first ≡ first_addressed station frame
  pub count : request.count ≡ quantity request.act frame

abbrev pub ReadsIfAccepted : Station → List ℕ → Decision → Type 0
ReadsIfAccepted station frame (Refused why) = Unit
ReadsIfAccepted station frame (Silent why) = Unit
ReadsIfAccepted station frame (Exception code) = Unit
ReadsIfAccepted station frame (Accepted request) = Reads station frame request

pub record Decided (lines : List Line) (station : Station) (frame : List ℕ) (decision : Decision) : Type 0 where
  pub kind : FirstDecides lines (kind_decided decision)
  pub fields : ReadsIfAccepted station frame decision

-- ---- the table from some line on; past line 4 none looks at the lengths of image and reply

abbrev pub frame_lines : Station → List ℕ → List Area → List Line
frame_lines station frame areas = drop 4 (table station areas 0 0 frame)

abbrev pub request_lines : Station → List ℕ → List Area → List Line
request_lines station frame areas = drop 10 (table station areas 0 0 frame)

abbrev pub area_lines : Station → List ℕ → List Area → List Line
area_lines station frame areas = drop 13 (table station areas 0 0 frame)

-- ---- the areas: what is found of them is all that a decision knows of them

-- how many words the bits of a run belong to
abbrev pub words_of : ℕ → ℕ → ℕ
words_of first count = (first % word_bits + count + 15) / word_bits

-- the words that the bits or words of a run belong to
abbrev pub words_in : Width → ℕ → ℕ → Run
words_in Bit first count = record { first = first / word_bits; count = words_of first count }
words_in Word first count = record { first = first; count = count }

-- the words that a frame asks for; none, if its function is not in the table. Where a line before E2 applies, they don't matter
abbrev pub words_asked_as : Option (Act × Width) → Station → List ℕ → Run
words_asked_as (Some (act, width)) station frame = words_in width (first_addressed station frame) (quantity act frame)
words_asked_as None station frame = record { first = 0; count = 0 }

abbrev pub words_asked : Station → List ℕ → Run
words_asked station frame = words_asked_as (function_of (function_field frame)) station frame

-- a finding on a list of areas, for an image of `words` words and what a frame asks for
abbrev pub FoundOf : Station → List ℕ → ℕ → Option Verdict → List Area → Type 0
FoundOf station frame words finding areas = Survey areas words (words_asked station frame) finding

-- ---- what is decided, and answered, whatever areas the finding is of

abbrev pub DecidedBy : Station → List ℕ → ℕ → ℕ → Option Verdict → Decision → Type 0
DecidedBy station frame words room finding decision =
    (areas : List Area) → FoundOf station frame words finding areas
    → Decided (table station areas words room frame) station frame decision

-- from a line behind line 3 on, whatever areas have this verdict: whether they keep the rules is asked no more
abbrev pub DecidedFor : (Station → List ℕ → List Area → List Line) → Station → List ℕ → Verdict → Decision → Type 0
DecidedFor lines station frame verdict decision =
    (areas : List Area) → Judged areas (words_asked station frame).first (words_asked station frame).count verdict
    → Decided (lines station frame areas) station frame decision

-- some areas are such that this is found of them
abbrev pub FoundOfSome : Station → List ℕ → ℕ → Option Verdict → Type 0
FoundOfSome station frame words finding = (areas : List Area) × FoundOf station frame words finding areas

abbrev pub AnsweredBy : Station → Option Verdict → List ℕ → List ℕ → List ℕ → Outcome → List ℕ → List ℕ → Type 0
AnsweredBy station finding frame image reply outcome image_after reply_after =
    (areas : List Area) → FoundOf station frame (length image) finding areas
    → Respond station areas frame image reply outcome image_after reply_after

-- ---- lines E2 and E8

-- some addressed word is such
abbrev pub SomeAddressed : (ℕ → Type 0) → (ℕ → Type 0) → Type 0
SomeAddressed Addressed Such = (word : ℕ) × Addressed word × Such word

-- a verdict on the words that are addressed
abbrev pub JudgedBy : List Area → (ℕ → Type 0) → Verdict → Type 0
JudgedBy areas Addressed SomeInNoArea = SomeAddressed Addressed (InNoArea areas)
JudgedBy areas Addressed SomeReadOnly =
    (SomeAddressed Addressed (InNoArea areas) → ⊥) × SomeAddressed Addressed (OfAreaWith ReadOnly areas)
JudgedBy areas Addressed AllReadWrite =
    (SomeAddressed Addressed (InNoArea areas) → ⊥) × (SomeAddressed Addressed (OfAreaWith ReadOnly areas) → ⊥)

abbrev pub accept_if_a_read : Act → Request → Decision
accept_if_a_read Read request = Accepted request
accept_if_a_read WriteOne request = Exception Code.ReadOnly
accept_if_a_read WriteRun request = Exception Code.ReadOnly

abbrev pub by_verdict : Verdict → Request → Decision
by_verdict SomeInNoArea request = Exception Code.Address
by_verdict SomeReadOnly request = accept_if_a_read request.act request
by_verdict AllReadWrite request = Accepted request
