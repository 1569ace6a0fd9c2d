-- The laws of the frames, each proved under its name in proofs/Laws.antt.
-- Assumes nothing.
use Rattle.std.specs.Prelude.{◌≡◌, List, None, ℕ, ◌+◌, ◌≤◌, ◌<◌, length}
use Rattle.promise.specs.Promise.{Determined, Decides}
use Rattle.frames.specs.declared.Act.{Act}
use Rattle.frames.specs.declared.Act.TheVariants.{WriteRun}
use Rattle.frames.specs.declared.Width.{Width}
use Rattle.frames.specs.declared.Code.{Code}
use Rattle.frames.specs.Fields.{byte_count_field}
use Rattle.frames.specs.Functions.{function_of}
use Rattle.frames.specs.Limits.{most, bytes_for, request_length, reply_length, BitValue}
use Rattle.frames.specs.Exceptions.{code_number, CodeIs, top_bit_set, exception_frame, exception_length}

-- 01 and 02 act alike, and so do 03 and 04
abbrev pub Alike : Type 0
Alike = (function_of 0x01 ≡ function_of 0x02) × (function_of 0x03 ≡ function_of 0x04)

-- a byte with its top bit set: 128 more, or, if it was set already, the byte itself, so that 83 stays 83
abbrev pub TopBit : Type 0
TopBit = (function : ℕ) → function < 256
    → (function < 0x80 → top_bit_set function ≡ function + 0x80) × (0x80 ≤ function → top_bit_set function ≡ function)

-- a function with its top bit set is never a function of the table
abbrev pub TopBitNoFunction : Type 0
TopBitNoFunction = (function : ℕ) → function_of (top_bit_set function) ≡ None

-- each code has a number of its own
abbrev pub CodesApart : Type 0
CodesApart = (a b : Code) → code_number a ≡ code_number b → a ≡ b

-- an exception has 5 bytes ..
abbrev pub ExceptionLength : Type 0
ExceptionLength = (station function code : ℕ) → length (exception_frame station function code) ≡ exception_length

-- .. and another reply 6 to 165, if its request keeps the limits
abbrev pub ReplyLengths : Type 0
ReplyLengths = (act : Act) (width : Width) (count : ℕ) → 1 ≤ count → count ≤ most act width
    → (6 ≤ reply_length act width count) × (reply_length act width count ≤ 165)

-- such a request must have 8 to 169 bytes, if its byte count is its quantity's
abbrev pub RequestLengths : Type 0
RequestLengths = (act : Act) (width : Width) (count : ℕ) (frame : List ℕ) → count ≤ most act width
    → (act ≡ WriteRun → byte_count_field frame ≡ bytes_for width count)
    → (8 ≤ request_length act frame) × (request_length act frame ≤ 169)

-- whether a value is a bit's is determined, and so is the code with a number; all other promises of this crate name their answer
abbrev pub IsBitValueDetermined : Type 0
IsBitValueDetermined = (value : ℕ) → Determined (Decides (BitValue value))

abbrev pub CodeIsDetermined : Type 0
CodeIsDetermined = (number : ℕ) → Determined (CodeIs number)
