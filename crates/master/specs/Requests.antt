-- The fields of a request, and what they stand for.
-- Assumes nothing.
use Rattle.std.specs.Prelude.{◌≡◌, ◌≢◌, List, [], ◌∷◌, Result, Ok, Err, ℕ, ◌/◌, ◌%◌}
use Rattle.frames.specs.declared.Act.{Act}
use Rattle.frames.specs.declared.Act.TheVariants.{Read, WriteOne, WriteRun}
use Rattle.frames.specs.declared.Width.{Width}
use Rattle.frames.specs.declared.Width.TheVariants.{Bit, Word}
use Rattle.frames.specs.Limits.{bytes_for}
use Rattle.master.specs.declared.Function.{Function}
use Rattle.master.specs.declared.Function.TheVariants.{ReadBits01, ReadBits02, ReadWords03, ReadWords04, WriteBit05, WriteWord06, WriteBits0F, WriteWords10}
use Rattle.master.specs.declared.UnknownFunction.{UnknownFunction}
use Rattle.master.specs.declared.Request.{Request}

-- ---- the eight functions: number, what it does, and to what (`FunctionsInTable` of Laws: so says the frame table, too)

abbrev pub function_number : Function → ℕ
function_number ReadBits01 = 0x01
function_number ReadBits02 = 0x02
function_number ReadWords03 = 0x03
function_number ReadWords04 = 0x04
function_number WriteBit05 = 0x05
function_number WriteWord06 = 0x06
function_number WriteBits0F = 0x0f
function_number WriteWords10 = 0x10

-- the function with this number, or that there is none: the error has the number
abbrev pub FunctionIs : ℕ → Result Function UnknownFunction → Type 0
FunctionIs number (Ok function) = number ≡ function_number function
FunctionIs number (Err unknown) = (unknown.0 ≡ number) × ((function : Function) → number ≢ function_number function)

abbrev pub act_of : Function → Act
act_of ReadBits01 = Read
act_of ReadBits02 = Read
act_of ReadWords03 = Read
act_of ReadWords04 = Read
act_of WriteBit05 = WriteOne
act_of WriteWord06 = WriteOne
act_of WriteBits0F = WriteRun
act_of WriteWords10 = WriteRun

abbrev pub width_of : Function → Width
width_of ReadBits01 = Bit
width_of ReadBits02 = Bit
width_of ReadWords03 = Word
width_of ReadWords04 = Word
width_of WriteBit05 = Bit
width_of WriteWord06 = Word
width_of WriteBits0F = Bit
width_of WriteWords10 = Word

-- ---- a request

abbrev pub act : Request → Act
act request = act_of request.function

abbrev pub width : Request → Width
width request = width_of request.function

-- how many bits or words it is about: as many as its quantity says, or one
abbrev pub quantity_for : Act → ℕ → ℕ
quantity_for Read operand = operand
quantity_for WriteOne operand = 1
quantity_for WriteRun operand = operand

abbrev pub quantity : Request → ℕ
quantity request = quantity_for (act request) request.operand

-- how many bytes of data it is built with: the quantity's for 0F and 10, and none for 01 to 06
abbrev pub data_size_for : Act → Width → ℕ → ℕ
data_size_for Read width operand = 0
data_size_for WriteOne width operand = 0
data_size_for WriteRun width operand = bytes_for width operand

abbrev pub data_size : Request → ℕ
data_size request = data_size_for (act request) (width request) request.operand

-- station, function, start as on the line, then quantity, bit value or word value: what the reply to a write echoes
abbrev pub request_head : Request → List ℕ
request_head request =
    request.station
    ∷ function_number request.function
    ∷ request.start / 256
    ∷ request.start % 256
    ∷ request.operand / 256
    ∷ request.operand % 256
    ∷ []
