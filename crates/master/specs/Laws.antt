-- The laws of the master's half, each proved under its name in proofs/Laws.antt. That both halves understand each other is
-- in `exchange`.
-- Assumes nothing.
use Rattle.std.specs.Prelude.{◌≡◌, ◌≢◌, List, [], ◌∷◌, Some, Result, Ok, Err, ℕ, ◌≤◌, length, take}
use Rattle.promise.specs.Promise.{Determined}
use Rattle.check_word.specs.Frame.{Bytes, framed, Right}
use Rattle.check_word.specs.Line.{Damaged}
use Rattle.frames.specs.declared.Act.TheVariants.{Read}
use Rattle.frames.specs.Functions.{function_of}
use Rattle.frames.specs.Limits.{bytes_for}
use Rattle.frames.specs.Exceptions.{code_number, exception_frame}
use Rattle.master.specs.declared.Function.{Function}
use Rattle.master.specs.declared.Request.{Request}
use Rattle.master.specs.declared.Refusal.{Refusal}
use Rattle.master.specs.declared.Refusal.TheVariants.{CheckWord}
use Rattle.master.specs.declared.Reading.{Reading}
use Rattle.master.specs.declared.Reading.TheVariants.{Data, Written, Exception}
use Rattle.master.specs.Requests.{function_number, FunctionIs, act_of, width_of, act, width, request_head}
use Rattle.master.specs.Refusals.{refusal_number, FieldsRefused}
use Rattle.master.specs.Building.{Build}
use Rattle.master.specs.Reading.{SpareBits0, ReadReply}

-- each function is the frame table's of its number
abbrev pub FunctionsInTable : Type 0
FunctionsInTable = (function : Function) → function_of (function_number function) ≡ Some (act_of function, width_of function)

-- each function, and each refusal, has a number of its own
abbrev pub FunctionsApart : Type 0
FunctionsApart = (a b : Function) → function_number a ≡ function_number b → a ≡ b

-- the function with a number is determined
abbrev pub FunctionIsDetermined : Type 0
FunctionIsDetermined = (number : ℕ) → Determined (FunctionIs number)

abbrev pub RefusalsApart : Type 0
RefusalsApart = (a b : Refusal) → refusal_number a ≡ refusal_number b → a ≡ b

-- ---- any two answers that a promise allows for one call coincide, and so does what they leave in the lent buffer

abbrev pub BuildDetermined : Type 0
BuildDetermined = (request : Request) (carried before : List ℕ)
    → Determined (λ (a : Result ℕ Refusal × List ℕ). Build request carried before a.0 a.1)

abbrev pub ReadReplyDetermined : Type 0
ReadReplyDetermined = (request : Request) (reply before : List ℕ)
    → Determined (λ (a : Result Reading Refusal × List ℕ). ReadReply request reply before a.0 a.1)

-- ---- a request that is built: it has 8 to 169 bytes, and a right check word

pub record BuiltFrame (n : ℕ) (after : List ℕ) : Type 0 where
  pub least : 8 ≤ n
  pub most : n ≤ 169
  pub right : Right (take n after)

abbrev pub BuiltFrames : Type 0
BuiltFrames = (request : Request) (carried before : List ℕ) (n : ℕ) (after : List ℕ)
    → Build request carried before (Ok n) after → BuiltFrame n after

-- ---- only that

-- the data that were read, with which the buffer then starts: only `Data` has any
abbrev pub values : Reading → List ℕ → List ℕ
values (Data n) after = take n after
values Written after = []
values (Exception code) after = []

-- the reply to a request from which this is read, to its last byte
abbrev pub ReplyWith : Request → List ℕ → List ℕ → Reading → Type 0
ReplyWith request shown reply (Data n) =
    (act request ≡ Read) × (n ≡ bytes_for (width request) request.operand) × (length shown ≡ n)
    × SpareBits0 (width request) request.operand shown
    × (reply ≡ framed (request.station ∷ function_number request.function ∷ n ∷ shown))
ReplyWith request shown reply Written = (act request ≢ Read) × (reply ≡ framed (request_head request))
ReplyWith request shown reply (Exception code) =
    reply ≡ exception_frame request.station (function_number request.function) (code_number code)

-- (a reply is lent as bytes, so that `Bytes` always holds of it)
pub record OnlyThat : Type 0 where
  -- a reply that is accepted beside a request fits it in every field, so that its bytes are these
  pub every_field : (request : Request) (reply before : List ℕ) (reading : Reading) (after : List ℕ)
      → Bytes reply → ReadReply request reply before (Ok reading) after → ReplyWith request (values reading after) reply reading
  -- two different values are never read from one reply, not even beside different requests or into different buffers
  pub one_value : (p q : Request) (reply before other : List ℕ) (a b : Reading) (after_a after_b : List ℕ)
      → ReadReply p reply before (Ok a) after_a → ReadReply q reply other (Ok b) after_b
      → (a ≡ b) × (values a after_a ≡ values b after_b)
  -- what is accepted for one request's fields determines the bytes of the reply, but for the data or the code that it carries
  pub but_for_those : (request : Request) (x y before other : List ℕ) (reading : Reading) (after_x after_y : List ℕ)
      → Bytes x → Bytes y
      → ReadReply request x before (Ok reading) after_x → ReadReply request y other (Ok reading) after_y
      → values reading after_x ≡ values reading after_y → x ≡ y

-- ---- damage

-- where the request's fields and the lent buffer are not refused with 70, a right reply of up to 256 bytes damaged in the three
-- kinds of the third demand is refused with 71, and nothing is written
abbrev pub DamagedReply : Type 0
DamagedReply = (request : Request) (right reply before : List ℕ) (answer : Result Reading Refusal) (after : List ℕ)
    → (FieldsRefused request (length before) → ⊥) → Damaged right reply
    → ReadReply request reply before answer after → (answer ≡ Err CheckWord) × (after ≡ before)
