-- The refusals: their numbers and their order, and when 70 is given.
-- Assumes nothing.
use Rattle.std.specs.Prelude.{◌≡◌, ◌⊎◌, List, [], ◌∷◌, ℕ, ◌<◌}
use Rattle.frames.specs.Limits.{most, BitValue}
use Rattle.master.specs.declared.Function.TheVariants.{WriteBit05}
use Rattle.master.specs.declared.Request.{Request}
use Rattle.master.specs.declared.Refusal.{Refusal}
use Rattle.master.specs.Requests.{act, width, quantity}

abbrev pub refusal_number : Refusal → ℕ
refusal_number Refusal.Request = 70
refusal_number Refusal.CheckWord = 71
refusal_number Refusal.Reply = 72

-- ---- refusals in their order: a line has a number, and says when it applies

abbrev pub Line : Type 1
Line = ℕ × Type 0

-- the first line that applies refuses, with its number
abbrev pub RefusedBy : List Line → ℕ → Type 0
RefusedBy [] number = ⊥
RefusedBy ((given, When) ∷ lines) number = (When × (number ≡ given)) ⊎ ((When → ⊥) × RefusedBy lines number)

-- no line applies
abbrev pub NotRefused : List Line → Type 0
NotRefused [] = Unit
NotRefused ((given, When) ∷ lines) = (When → ⊥) × NotRefused lines

-- ---- 70

-- quantity or bit value out of limits
abbrev pub OutOfLimits : Request → Type 0
OutOfLimits request =
    (quantity request ≡ 0)
    ⊎ (most (act request) (width request) < quantity request)
    ⊎ ((request.function ≡ WriteBit05) × (BitValue request.operand → ⊥))

-- the fewest bytes of a lent buffer
abbrev pub least_room : ℕ
least_room = 256

-- the fields, or a lent buffer of so many bytes, are refused, in building and reading alike
abbrev pub FieldsRefused : Request → ℕ → Type 0
FieldsRefused request room = OutOfLimits request ⊎ (request.station ≡ 0) ⊎ (room < least_room)
