-- The words that the demands are stated with.
-- Assumes nothing.
use Rattle.std.specs.Prelude.{◌≡◌, ◌⊎◌, List, [], ◌∷◌, ℕ, zero, suc, ◌+◌, ◌-◌, ◌/◌, ◌%◌, ◌≤◌, ◌<◌, eqb, length, take, drop}
use Rattle.check_word.specs.Frame.{framed, Right}
use Rattle.registers.specs.Memory.{word_bits, image_word, image_bit}
use Rattle.registers.specs.Packing.{packed_bit, packed_word}
use Rattle.registers.specs.Calls.{bit_value}
use Rattle.areas.specs.Holding.{Among}
use Rattle.frames.specs.declared.Act.{Act}
use Rattle.frames.specs.declared.Act.TheVariants.{Read}
use Rattle.frames.specs.declared.Width.{Width}
use Rattle.frames.specs.declared.Width.TheVariants.{Bit, Word}
use Rattle.std.specs.Prelude.{Some}
use Rattle.frames.specs.Fields.{byte, station_field, function_field}
use Rattle.frames.specs.Functions.{function_of}
use Rattle.frames.specs.Limits.{quantity, on}
use Rattle.slave.specs.declared.Counting.{Counting}
use Rattle.slave.specs.declared.Outcome.TheVariants.{Reply}
use Rattle.slave.specs.Numbers.{Kind, accepted}
use Rattle.slave.specs.Conditions.{first_addressed, AddressedBy, Writes}
use Rattle.slave.specs.Table.{Line, table}
use Rattle.slave.specs.Answer.{Call, Answer, to_send}

-- A slave, by the answers that it may give to a call. Ours is `Answers`, which is what `respond` promises (slave, `Answer`). The
-- lists of a call may hold any numbers, so a law speaks of more calls than can be made.
abbrev pub Slave : Type 1
Slave = Call → Answer → Type 0

-- ---- the answer table

-- the table for a call
abbrev pub lines_of : Call → List Line
lines_of call = table call.station call.areas (length call.image) (length call.reply) call.frame

-- line n by its place, counted from 0 (the paper's line 11 has place 5): what it gives, and whether it applies. Behind the last
-- line stands `accepted`, which always applies
abbrev pub given : List Line → ℕ → Kind
given [] n = accepted
given ((kind, When) ∷ lines) zero = kind
given ((kind, When) ∷ lines) (suc n) = given lines n

abbrev pub Applies : List Line → ℕ → Type 0
Applies [] n = Unit
Applies ((kind, When) ∷ lines) zero = When
Applies ((kind, When) ∷ lines) (suc n) = Applies lines n

-- none of the first n lines applies
abbrev pub NoneOfTheFirst : ℕ → List Line → Type 0
NoneOfTheFirst n lines = (m : ℕ) → m < n → Applies lines m → ⊥

-- line n is the first that applies
abbrev pub FirstToApply : List Line → ℕ → Type 0
FirstToApply lines n = Applies lines n × NoneOfTheFirst n lines

-- the place behind the fifteen lines, where `accepted` stands
abbrev pub behind_the_table : ℕ
behind_the_table = 15

-- how many lines stand before E2: 1 to E3
abbrev pub lines_before_e2 : ℕ
lines_before_e2 = 13

-- ---- a call

-- its function is in the function table, and does this to bits or to words
abbrev pub Does : Call → Act → Width → Type 0
Does call act width = function_of (function_field call.frame) ≡ Some (act, width)

-- the first address, counted from 0 (the station's counting says how the frame has it)
abbrev pub first_of : Call → ℕ
first_of call = first_addressed call.station call.frame

-- a call with another image
abbrev pub with_image : List ℕ → Call → Call
with_image image call = record {
  station = call.station;
  areas = call.areas;
  frame = call.frame;
  image = image;
  reply = call.reply;
}

-- a call with this counting and this frame
abbrev pub receiving : Counting → List ℕ → Call → Call
receiving counting frame call = record {
  station = record { own = call.station.own; counting = counting; state = call.station.state };
  areas = call.areas;
  frame = frame;
  image = call.image;
  reply = call.reply;
}

-- a request: address, function, start, whatever follows, and its own right check word
abbrev pub request : ℕ → ℕ → ℕ → List ℕ → List ℕ
request address function start rest = framed (address ∷ function ∷ start / 256 ∷ start % 256 ∷ rest)

-- ---- an answer

-- image and reply are as they were
abbrev pub Unchanged : Call → Answer → Type 0
Unchanged call answer = (answer.image ≡ call.image) × (answer.reply ≡ call.reply)

-- a buffer, as long as before, with room for n bytes: those beyond keep their content
pub record KeptBeyond (n : ℕ) (before after : List ℕ) : Type 0 where
  pub room : n ≤ length before
  pub as_long : length after ≡ length before
  pub beyond : drop n after ≡ drop n before

-- the bytes that go onto the line
abbrev pub sent : Answer → List ℕ
sent answer = take (to_send answer.outcome) answer.reply

-- a frame of this station and function
pub record FrameOf (station function : ℕ) (frame : List ℕ) : Type 0 where
  pub right : Right frame
  pub from_station : station_field frame ≡ station
  pub of_function : function_field frame ≡ function

-- the data of a read's reply of n bytes: behind three head bytes, and before the check word
abbrev pub data_of : ℕ → List ℕ → List ℕ
data_of n reply = take (n - 5) (drop 3 reply)

-- a read is accepted, or a write
abbrev pub AcceptedRead : Call → Answer → Type 0
AcceptedRead call answer = (n : ℕ) × (answer.outcome ≡ Reply n) × (width : Width) × Does call Read width

abbrev pub AcceptedWrite : Call → Answer → Type 0
AcceptedWrite call answer = (n : ℕ) × (answer.outcome ≡ Reply n) × Writes call.frame

-- ---- what a write sets

-- bit or word k of an image
abbrev pub element : Width → List ℕ → ℕ → ℕ
element Bit = image_bit
element Word = image_word

-- bit `k` belongs to the run of bits, or to a word of the run of words
abbrev pub BitAddressed : Width → ℕ → ℕ → ℕ → Type 0
BitAddressed Bit first count k = Among first count k
BitAddressed Word first count k = Among first count (k / word_bits)

-- in an image as long as before, the addressed bits or words hold the data, and every other bit is what it was
pub record SetsExactly (width : Width) (first count : ℕ) (run : ℕ → ℕ) (before after : List ℕ) : Type 0 where
  pub as_long : length after ≡ length before
  pub sets : (n : ℕ) → n < count → element width after (first + n) ≡ run n
  pub no_other : (k : ℕ) → (BitAddressed width first count k → ⊥) → image_bit after k ≡ image_bit before k

-- the datum of a write of one: FF00 is a bit that is on
abbrev pub one_datum : Width → ℕ → ℕ → ℕ
one_datum Bit value n = bit_value (eqb value on)
one_datum Word value n = value

-- the data of a write of a run
abbrev pub run_data : Width → List ℕ → ℕ → ℕ
run_data Bit = packed_bit
run_data Word = packed_word

-- ---- two calls

-- equal outcomes and replies
abbrev pub SameReply : Answer → Answer → Type 0
SameReply a b = (a.outcome ≡ b.outcome) × (a.reply ≡ b.reply)

-- the image of a call and another agree on the addressed words (a function that is not in the table addresses none) ..
abbrev pub AgreeOnWords : Call → List ℕ → Type 0
AgreeOnWords call other = (act : Act) (width : Width) → Does call act width
    → (word : ℕ) → AddressedBy width (first_of call) (quantity act call.frame) word
    → image_word call.image word ≡ image_word other word

-- .. or on the addressed bits
abbrev pub AgreeOnBits : Call → List ℕ → Type 0
AgreeOnBits call other =
    (k : ℕ) → Among (first_of call) (quantity Read call.frame) k → image_bit call.image k ≡ image_bit other k

-- byte i of a write's reply belongs to the start, or to the check word
abbrev pub StartOrCheckWord : ℕ → Type 0
StartOrCheckWord i = Among 2 2 i ⊎ Among 6 2 i

-- equal outcomes and images, and replies that are equal but for the echoed start and the reply's check word
pub record AlikeButForStart (call : Call) (a b : Answer) : Type 0 where
  pub outcomes : a.outcome ≡ b.outcome
  pub images : a.image ≡ b.image
  -- only the reply to a write echoes the start
  pub replies : (AcceptedWrite call b → ⊥) → a.reply ≡ b.reply
  pub as_long : length a.reply ≡ length b.reply
  pub elsewhere : (i : ℕ) → (StartOrCheckWord i → ⊥) → byte a.reply i ≡ byte b.reply i
