-- Document 01, "Bench program": the station, and what is answered to a line.
-- Assumes nothing.
use Rattle.std.specs.Prelude.{◌≡◌, ◌⊎◌, List, ◌∷◌, ℕ, ◌≤◌, length, replicate}
use Rattle.slave.specs.declared.Station.{Station}
use Rattle.slave.specs.declared.Counting.TheVariants.{ModBus}
use Rattle.slave.specs.declared.State.TheVariants.{Ready}
use Rattle.slave.specs.Conditions.{least_room}
use Rattle.slave.specs.Examples.{areas}
use Rattle.slave.specs.Answer.{Call, Answer, over, Answers}
use Rattle.lines.specs.Hex.{Says}
use Rattle.lines.specs.Outcomes.{bad_line, outcome_text, as_line}

-- station 20, MOD-Bus, ready
abbrev pub station : Station
station = record { own = 20; counting = ModBus; state = Ready }

-- 16 words, word 1 = 1000, word 2 = 500, the rest 0: the registers before the first line
abbrev pub registers_at_first : List ℕ
registers_at_first = 0 ∷ 1000 ∷ 500 ∷ replicate 13 0

-- the call for a frame; words 0 to 7 are read-write, 8 to 15 read-only (`areas` of slave's `Examples`)
abbrev pub call : List ℕ → List ℕ → Call
call image frame = record {
  station = station;
  areas = areas;
  frame = frame;
  image = image;
  reply = replicate least_room 0;
}

-- what is written for a frame, and the registers after it: the slave's answer
pub record FrameAnswered (frame image image_after text : List ℕ) : Type 0 where
  pub answer : Answer
  pub allowed : Answers (call image frame) answer
  pub registers : image_after ≡ answer.image
  pub written : text ≡ as_line (outcome_text answer.outcome answer.reply)

-- .. and for a line: that of the frame that it says, or `bad line`
unfoldable pub Answered : (line image image_after text : List ℕ) → Type 0
Answered line image image_after text =
    ((frame : List ℕ) × Says line frame × FrameAnswered frame image image_after text)
    ⊎ (((frame : List ℕ) → Says line frame → ⊥) × (image_after ≡ image) × (text ≡ as_line bad_line))

-- the most characters of an answer: `reply`, 165 bytes, each behind a blank, and a line feed
abbrev pub longest_answer : ℕ
longest_answer = 501

-- a text of this kind stands in the start of a buffer, its length is told, and the rest keeps its content
pub record Stands (Kind : List ℕ → Type 0) (before : List ℕ) (n : ℕ) (after : List ℕ) : Type 0 where
  pub text : List ℕ
  pub is_of_the_kind : Kind text
  pub within : length text ≤ length before
  pub told : n ≡ length text
  pub stands : after ≡ over text before
