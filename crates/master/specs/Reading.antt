-- Reading a reply beside the request that it answers.
-- Assumes nothing.
use Rattle.std.specs.Prelude.{◌≡◌, ◌⊎◌, ◌≢◌, List, [], ◌∷◌, ◌++◌, Result, Ok, Err, ℕ, ◌≤◌, ◌<◌, length, take, drop}
use Rattle.check_word.specs.Frame.{Right}
use Rattle.registers.specs.Packing.{packed_bit}
use Rattle.frames.specs.declared.Act.TheVariants.{Read}
use Rattle.frames.specs.declared.Width.{Width}
use Rattle.frames.specs.declared.Width.TheVariants.{Bit, Word}
use Rattle.frames.specs.declared.Code.{Code}
use Rattle.frames.specs.Fields.{byte, station_field, function_field, start_field, quantity_field}
use Rattle.frames.specs.Limits.{bytes_for, reply_length}
use Rattle.frames.specs.Exceptions.{code_number, top_bit_set, exception_length}
use Rattle.master.specs.declared.Request.{Request}
use Rattle.master.specs.declared.Refusal.{Refusal}
use Rattle.master.specs.declared.Reading.{Reading}
use Rattle.master.specs.declared.Reading.TheVariants.{Data, Written, Exception}
use Rattle.master.specs.Requests.{function_number, act, width}
use Rattle.master.specs.Refusals.{refusal_number, Line, RefusedBy, NotRefused, FieldsRefused}

-- ---- a reply that fits its request

-- the n bytes of bits or words of a read's reply: behind station, function and byte count
abbrev pub data_in : ℕ → List ℕ → List ℕ
data_in n reply = take n (drop 3 reply)

-- spare bits are all 0; words have none
abbrev pub SpareBits0 : Width → ℕ → List ℕ → Type 0
SpareBits0 Bit count bytes = (n : ℕ) → count ≤ n → packed_bit bytes n ≡ 0
SpareBits0 Word count bytes = Unit

-- a read's reply, with n bytes of bits or words
pub record FitsRead (request : Request) (reply : List ℕ) (n : ℕ) : Type 0 where
  pub reads : act request ≡ Read
  pub station : station_field reply ≡ request.station
  pub function : function_field reply ≡ function_number request.function
  pub size : n ≡ bytes_for (width request) request.operand
  pub byte_count : byte reply 2 ≡ n
  pub spare : SpareBits0 (width request) request.operand (data_in n reply)
  pub long : length reply ≡ reply_length (act request) (width request) request.operand

-- a write's reply, which echoes start, and quantity or value
pub record FitsWrite (request : Request) (reply : List ℕ) : Type 0 where
  pub writes : act request ≢ Read
  pub station : station_field reply ≡ request.station
  pub function : function_field reply ≡ function_number request.function
  pub start : start_field reply ≡ request.start
  pub operand : quantity_field reply ≡ request.operand
  pub long : length reply ≡ reply_length (act request) (width request) request.operand

-- an exception, with one of the codes 1, 2, 3, 4 and 8
pub record FitsException (request : Request) (reply : List ℕ) (code : Code) : Type 0 where
  pub station : station_field reply ≡ request.station
  pub function : function_field reply ≡ top_bit_set (function_number request.function)
  pub number : byte reply 2 ≡ code_number code
  pub long : length reply ≡ exception_length

-- the reply fits the request, and this is read from it
abbrev pub Fits : Request → List ℕ → Reading → Type 0
Fits request reply (Data n) = FitsRead request reply n
Fits request reply Written = FitsWrite request reply
Fits request reply (Exception code) = FitsException request reply code

abbrev pub NothingFits : Request → List ℕ → Type 0
NothingFits request reply = (reading : Reading) → Fits request reply reading → ⊥

-- ---- reading

-- the fewest bytes of a reply
abbrev pub shortest_reply : ℕ
shortest_reply = 5

-- 70 as for building, 71 reply under 5 bytes or bad check word, 72 reply does not fit the request
abbrev pub reading_lines : Request → ℕ → List ℕ → List Line
reading_lines request room reply =
    (70, FieldsRefused request room)
    ∷ (71, (length reply < shortest_reply) ⊎ (Right reply → ⊥))
    ∷ (72, NothingFits request reply)
    ∷ []

-- what is answered, for a lent buffer of so many bytes
abbrev pub ToldBy : Request → ℕ → List ℕ → Result Reading Refusal → Type 0
ToldBy request room reply (Err why) = RefusedBy (reading_lines request room reply) (refusal_number why)
ToldBy request room reply (Ok reading) = NotRefused (reading_lines request room reply) × Fits request reply reading

-- what it leaves in the buffer: the bits or words, and beyond them what was there; or all that was there
abbrev pub Left : List ℕ → List ℕ → Result Reading Refusal → List ℕ → Type 0
Left reply before (Err why) after = after ≡ before
Left reply before (Ok (Data n)) after = after ≡ data_in n reply ++ drop n before
Left reply before (Ok Written) after = after ≡ before
Left reply before (Ok (Exception code)) after = after ≡ before

-- what `read_reply` promises; `before` is the lent buffer, and `after` what the call leaves in it
pub record ReadReply (request : Request) (reply before : List ℕ) (answer : Result Reading Refusal) (after : List ℕ) : Type 0 where
  pub told : ToldBy request (length before) reply answer
  pub left : Left reply before answer after
