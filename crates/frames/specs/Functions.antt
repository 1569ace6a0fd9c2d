-- The eight functions. 01 and 02 act alike, and so do 03 and 04.
-- Assumes nothing.
use Rattle.std.specs.Prelude.{Bool, true, false, List, [], ◌∷◌, Option, Some, None, ℕ, eqb}
use Rattle.frames.specs.declared.Width.{Width}
use Rattle.frames.specs.declared.Width.TheVariants.{Bit, Word}
use Rattle.frames.specs.declared.Act.{Act}
use Rattle.frames.specs.declared.Act.TheVariants.{Read, WriteOne, WriteRun}

-- number, what it does, and to what
abbrev pub functions : List (ℕ × Act × Width)
functions =
    (0x01, Read, Bit)
    ∷ (0x02, Read, Bit)
    ∷ (0x03, Read, Word)
    ∷ (0x04, Read, Word)
    ∷ (0x05, WriteOne, Bit)
    ∷ (0x06, WriteOne, Word)
    ∷ (0x0f, WriteRun, Bit)
    ∷ (0x10, WriteRun, Word)
    ∷ []

abbrev pub found_if : Bool → Act × Width → Option (Act × Width) → Option (Act × Width)
found_if true line otherwise = Some line
found_if false line otherwise = otherwise

-- the line with this number
abbrev pub look_up : ℕ → List (ℕ × Act × Width) → Option (Act × Width)
look_up number [] = None
look_up number ((n, act, width) ∷ lines) = found_if (eqb number n) (act, width) (look_up number lines)

-- what the function with a number does, and to what, if the number is one of the eight
unfoldable pub function_of : ℕ → Option (Act × Width)
function_of number = look_up number functions
