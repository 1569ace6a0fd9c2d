-- The three demands, each proved under its name in proofs/Demands.antt: `Sum` of the check word, the others of our slave
-- (`Answers`). What stands in quotes is the customer's: of the three demands, or of document 01.
-- Assumes nothing.
use Rattle.std.specs.Prelude.{◌≡◌, ◌≢◌, List, ℕ, ◌+◌, ◌≤◌, length}
use Rattle.check_word.specs.Frame.{framed}
use Rattle.check_word.specs.Line.{Damaged}
use Rattle.check_word.specs.Laws as check-word
use Rattle.registers.specs.Memory.{word_bits, FitIn}
use Rattle.frames.specs.declared.Act.TheVariants.{Read, WriteOne, WriteRun}
use Rattle.frames.specs.declared.Width.{Width}
use Rattle.frames.specs.declared.Width.TheVariants.{Bit}
use Rattle.frames.specs.declared.Code.{Code}
use Rattle.frames.specs.Fields.{byte, function_field, quantity_field, value_field, data_field, up_to_quantity}
use Rattle.frames.specs.Limits.{quantity, bytes_for, reply_length}
use Rattle.frames.specs.Exceptions.{code_number, top_bit_set, exception_length}
use Rattle.slave.specs.declared.Counting.TheVariants.{ModBus, JBus}
use Rattle.slave.specs.declared.Refusal.{Refusal}
use Rattle.slave.specs.declared.Silence.{Silence}
use Rattle.slave.specs.declared.Outcome.TheVariants.{Refused, Silent, Exception, Reply}
use Rattle.slave.specs.Numbers.{silence, exception, kind_of}
use Rattle.slave.specs.Conditions.{OfFunction, NamesNothing}
use Rattle.slave.specs.Answer.{Call, Answer, Shown}
use Rattle.demands.specs.Terms.{Slave, lines_of, given, NoneOfTheFirst, FirstToApply, behind_the_table, lines_before_e2, Does, first_of, with_image, receiving, request, Unchanged, KeptBeyond, sent, FrameOf, data_of, AcceptedRead, SetsExactly, one_datum, run_data, SameReply, AgreeOnWords, AgreeOnBits, AlikeButForStart}

-- ---- demand 1

-- "Every call returns an answer, for any frame, image, area list and buffer.": there is one that the slave may give (the words of
-- an image have 16 bits). That `respond` returns it is what its proof says
abbrev pub EveryCall : Slave → Type 0
EveryCall slave = (call : Call) → FitIn word_bits call.image → (answer : Answer) × slave call answer

-- "A refusal, a silence or an exception leaves the image untouched."
pub record Untouched (slave : Slave) : Type 0 where
  -- "Refusals and silences leave reply and image as they were."
  pub refused : (call : Call) (answer : Answer) → slave call answer → (why : Refusal) → answer.outcome ≡ Refused why
      → Unchanged call answer
  pub silent : (call : Call) (answer : Answer) → slave call answer → (why : Silence) → answer.outcome ≡ Silent why
      → Unchanged call answer
  -- "Reply bytes beyond the written ones keep their content." "An exception writes 5 bytes of the reply and leaves the image."
  pub excepted : (call : Call) (answer : Answer) → slave call answer → (code : Code) → answer.outcome ≡ Exception code
      → (answer.image ≡ call.image) × KeptBeyond exception_length call.reply answer.reply
  -- and of the same buffer: "A normal reply writes exactly its length.", which is the frame table's
  pub replied : (call : Call) (answer : Answer) → slave call answer → (n : ℕ) → answer.outcome ≡ Reply n
      → OfFunction call.frame (λ act width. n ≡ reply_length act width (quantity act call.frame))
      × KeptBeyond n call.reply answer.reply

-- ---- demand 2: "Replies and image are exactly those of the manual (document 004) with the numbers and the order of checks of
-- document 01, in all eight functions and both countings."

-- the numbers and the order of checks: each kind and number is given exactly where its line is the first that applies
pub record FirstLineDecides (slave : Slave) : Type 0 where
  -- "The first line that applies decides."
  pub decides : (call : Call) (answer : Answer) → slave call answer
      → (n : ℕ) → FirstToApply (lines_of call) n → kind_of answer.outcome ≡ given (lines_of call) n
  -- "It is given in no other situation."
  pub no_other : (call : Call) (answer : Answer) → slave call answer
      → (n : ℕ) → n ≤ behind_the_table → kind_of answer.outcome ≡ given (lines_of call) n → FirstToApply (lines_of call) n

-- "A read shows the addressed bits or words": of the image at entry, behind their byte count. "Spare bits of a reply's last byte
-- are 0" (`Shown`). The image stays
abbrev pub ReadShows : Slave → Type 0
ReadShows slave = (call : Call) (answer : Answer) → slave call answer
    → (n : ℕ) → answer.outcome ≡ Reply n → (width : Width) → Does call Read width
    → Shown width (first_of call) (quantity_field call.frame) call.image (data_of n answer.reply)
    × (byte answer.reply 2 ≡ bytes_for width (quantity_field call.frame))
    × (answer.image ≡ call.image)

-- "an accepted write sets exactly those". "Echoed start addresses are as received, also in J-Bus."
pub record WriteSetsExactly (slave : Slave) : Type 0 where
  -- one bit or word: the reply is as the request
  pub one : (call : Call) (answer : Answer) → slave call answer
      → (n : ℕ) → answer.outcome ≡ Reply n → (width : Width) → Does call WriteOne width
      → SetsExactly width (first_of call) 1 (one_datum width (value_field call.frame)) call.image answer.image
      × (sent answer ≡ call.frame)
  -- a run of them: the reply has start and quantity. Spare bits: "of a request's last byte they are ignored"
  pub run : (call : Call) (answer : Answer) → slave call answer
      → (n : ℕ) → answer.outcome ≡ Reply n → (width : Width) → Does call WriteRun width
      → SetsExactly width (first_of call) (quantity_field call.frame) (run_data width (data_field call.frame))
      call.image answer.image
      × (sent answer ≡ framed (up_to_quantity call.frame))

-- "a reply depends on no other register", and neither does the outcome
pub record DependsOnNothingElse (slave : Slave) : Type 0 where
  -- "Two images that agree on the addressed words get equal replies, if they are equally long and the rest of the call is the
  -- same." ..
  pub words : (call : Call) (other : List ℕ) (a b : Answer) → slave call a → slave (with_image other call) b
      → length other ≡ length call.image → AgreeOnWords call other → SameReply a b
  -- .. for a read of bits it is enough that they agree on the addressed bits ..
  pub bits : (call : Call) (other : List ℕ) (a b : Answer) → slave call a → slave (with_image other call) b
      → length other ≡ length call.image → Does call Read Bit → AgreeOnBits call other → SameReply a b
  -- .. and where the answer is no accepted read, they need only be equally long
  pub nothing : (call : Call) (other : List ℕ) (a b : Answer) → slave call a → slave (with_image other call) b
      → length other ≡ length call.image → (AcceptedRead call a → ⊥) → SameReply a b

-- "MOD-Bus: the start address in the frame is the address counted from 0. J-Bus: it is one higher"
pub record JBusCounting (slave : Slave) : Type 0 where
  -- a request with start s + 1 and its right check word is answered as MOD-Bus answers it with start s, but for the echoed start
  -- and the reply's check word
  pub one_higher : (call : Call) (address function start : ℕ) (rest : List ℕ) (j_bus mod_bus : Answer)
      → slave (receiving JBus (request address function (start + 1) rest) call) j_bus
      → slave (receiving ModBus (request address function start rest) call) mod_bus
      → AlikeButForStart (receiving ModBus (request address function start rest) call) j_bus mod_bus
  -- "so J-Bus start 0 names nothing": exception 2, where lines 1 to E3 do not apply
  pub start_0 : (call : Call) (answer : Answer) → slave call answer → NamesNothing call.station call.frame
      → NoneOfTheFirst lines_before_e2 (lines_of call) → kind_of answer.outcome ≡ exception 2

-- "Every frame: station address, function, data, check word."
pub record ReplyIsAFrame (slave : Slave) : Type 0 where
  pub replied : (call : Call) (answer : Answer) → slave call answer → (n : ℕ) → answer.outcome ≡ Reply n
      → FrameOf call.station.own (function_field call.frame) (sent answer)
  -- "An exception reply is address, function with its top bit set, code, check word"
  pub excepted : (call : Call) (answer : Answer) → slave call answer → (code : Code) → answer.outcome ≡ Exception code
      → FrameOf call.station.own (top_bit_set (function_field call.frame)) (sent answer)
      × (byte (sent answer) 2 ≡ code_number code)

-- ---- demand 3

-- "The check word is additive over three messages of equal length" (check_word, `Laws`)
abbrev pub Sum : Type 0
Sum = check-word.Sum

-- "a frame damaged by two flips, any odd number, or any number inside 16 neighbouring line bits is answered by silence 11", where
-- the call isn't refused: `right` was sent, and the call's frame received
abbrev pub Damage : Slave → Type 0
Damage slave = (call : Call) (answer : Answer) → slave call answer → (right : List ℕ) → Damaged right call.frame
    → ((why : Refusal) → answer.outcome ≢ Refused why)
    → (kind_of answer.outcome ≡ silence 11) × Unchanged call answer
