-- Exceptions: their codes, and the form of their frame.
-- Assumes nothing.
use Rattle.std.specs.Prelude.{◌≡◌, ◌≢◌, List, [], ◌∷◌, Result, Ok, Err, ℕ, ◌+◌, ◌%◌}
use Rattle.check_word.specs.Frame.{framed}
use Rattle.frames.specs.declared.Code.{Code}
use Rattle.frames.specs.declared.UnknownCode.{UnknownCode}
use Rattle.frames.specs.declared.Code.TheVariants.{Function, Address, Value, NotReady, ReadOnly}

-- the numbers of the codes
abbrev pub code_number : Code → ℕ
code_number Function = 1
code_number Address = 2
code_number Value = 3
code_number NotReady = 4
code_number ReadOnly = 8

-- the code with this number, or that there is none: the error has the number
abbrev pub CodeIs : ℕ → Result Code UnknownCode → Type 0
CodeIs number (Ok code) = number ≡ code_number code
CodeIs number (Err unknown) = (unknown.0 ≡ number) × ((code : Code) → number ≢ code_number code)

-- a function with its top bit set: 03 becomes 83, and 83 stays 83
unfoldable pub top_bit_set : ℕ → ℕ
top_bit_set function = 0x80 + function % 0x80

-- station address, function with its top bit set, code, check word ..
abbrev pub exception_frame : ℕ → ℕ → ℕ → List ℕ
exception_frame station function code = framed (station ∷ top_bit_set function ∷ code ∷ [])

-- .. 5 bytes
abbrev pub exception_length : ℕ
exception_length = 5
