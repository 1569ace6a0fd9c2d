-- For the contracts of private functions alone; no public promise cites it. A decision that can be carried out.
-- Assumes nothing.
use Rattle.std.specs.Prelude.{◌≡◌, List, ◌∷◌, ℕ, ◌+◌, ◌*◌, ◌≤◌, length}
use Rattle.check_word.specs.Frame.{Right, framed}
use Rattle.registers.specs.Memory.{word_bits}
use Rattle.frames.specs.declared.Act.TheVariants.{WriteRun}
use Rattle.frames.specs.declared.Width.{Width}
use Rattle.frames.specs.declared.Width.TheVariants.{Bit, Word}
use Rattle.frames.specs.Fields.{byte_count_field}
use Rattle.frames.specs.Limits.{quantity, most, bytes_for, request_length}
use Rattle.slave.specs.declared.Station.{Station}
use Rattle.slave.specs.declared.Outcome.{Outcome}
use Rattle.slave.specs.declared.decide.Request.{Request}
use Rattle.slave.specs.declared.decide.Decision.{Decision}
use Rattle.slave.specs.declared.decide.Decision.TheVariants.{Refused, Silent, Exception, Accepted}
use Rattle.slave.specs.Numbers.{kind_of}
use Rattle.slave.specs.Conditions.{least_room}
use Rattle.slave.specs.Answer.{Shown, over, Leaves}
use Rattle.slave.specs.Deciding.{kind_decided, Reads}

-- a run of bits or words lies inside an image of so many words
abbrev pub Inside : Width → ℕ → ℕ → ℕ → Type 0
Inside Bit words first count = first + count ≤ words * word_bits
Inside Word words first count = first + count ≤ words

-- the reply to a read is written over the start of a buffer
pub record ReadWritten (own function : ℕ) (width : Width) (first count : ℕ) (image before after : List ℕ) : Type 0 where
  pub shown : List ℕ
  pub are_shown : Shown width first count image shown
  pub written : after ≡ over (framed (own ∷ function ∷ bytes_for width count ∷ shown)) before

-- the request of this frame can be carried out
pub record Possible (frame : List ℕ) (words room : ℕ) (request : Request) : Type 0 where
  pub count_read : request.count ≡ quantity request.act frame
  pub some : 1 ≤ request.count
  pub at_most : request.count ≤ most request.act request.width
  pub inside : Inside request.width words request.first request.count
  pub long : length frame ≡ request_length request.act frame
  pub byte_count : request.act ≡ WriteRun → byte_count_field frame ≡ bytes_for request.width request.count
  pub right : Right frame
  pub room_enough : least_room ≤ room

abbrev pub CanBeDone : Station → List ℕ → ℕ → ℕ → Decision → Type 0
CanBeDone station frame words room (Refused why) = Unit
CanBeDone station frame words room (Silent why) = Unit
CanBeDone station frame words room (Exception code) = least_room ≤ room
CanBeDone station frame words room (Accepted request) =
    Reads station frame request × Possible frame words room request

-- what was decided is told, and done
pub record CarriedOut (station : Station) (frame image reply : List ℕ) (decision : Decision) (outcome : Outcome)
    (image_after reply_after : List ℕ) : Type 0 where
  pub kind : kind_of outcome ≡ kind_decided decision
  pub left : Leaves station frame image reply outcome image_after reply_after
