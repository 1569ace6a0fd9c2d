-- What is in order is built and read: fields, data and buffer, or fields, buffer and reply.
-- Assumes nothing.
use mathlib.Core.Path.{◌≡◌, refl, ap}
use mathlib.Core.Logic.{◌≢◌, ⊎_elim}
use mathlib.Core.List.{List}
use Prim.Native.Nat.{ℕ, ◌≤◌}
use native.Mathlib.Omega.{arith}
use lib.ListN.{length}
use Rattle.std.specs.Prelude.{Ok}
use Rattle.check_word.specs.Frame.{Right}
use Rattle.frames.specs.Limits.{most, BitValue}
use Rattle.master.specs.declared.Function.TheVariants.{WriteBit05}
use Rattle.master.specs.declared.Request.{Request}
use Rattle.master.specs.declared.Reading.{Reading}
use Rattle.master.specs.Requests.{function_number, act, width, quantity, data_size}
use Rattle.master.specs.Refusals.{least_room, FieldsRefused}
use Rattle.master.specs.Building.{RequestFrame, over, Build}
use Rattle.master.specs.Reading.{Fits, shortest_reply, ToldBy}

-- fields that are in order, and a buffer that has room
pub fields_kept : (request : Request) (room : ℕ)
    → (1 ≤ quantity request) × (quantity request ≤ most (act request) (width request)) × (1 ≤ request.station) × (least_room ≤ room)
    → (request.function ≡ WriteBit05 → BitValue request.operand) → FieldsRefused request room → ⊥
fields_kept request room kept value =
    ⊎_elim
    (⊎_elim (λ e. omega arith) (⊎_elim (λ h. omega arith) (λ one. one.1 (value one.0))))
    (⊎_elim (λ e. omega arith) (λ h. omega arith))

-- of the other functions no bit value is asked
pub no_bit : (request : Request) → function_number request.function ≢ 5
    → request.function ≡ WriteBit05 → BitValue request.operand
no_bit request other is = absurd (other (ap function_number is))

-- a request is built where its fields are in order, and its data of their size
pub request_built : (request : Request) (carried before bytes : List ℕ) → (FieldsRefused request (length before) → ⊥)
    → length carried ≡ data_size request → RequestFrame request carried bytes
    → Build request carried before (Ok (length bytes)) (over bytes before)
request_built request carried before bytes kept size frame = (
  (⊎_elim (λ other. other size) kept, tt),
  record { bytes = bytes; are_the_request = frame; told = omega arith; written = refl },
)

-- what fits is told, if the fields are in order and the check word is right: no line applies
pub told_right : (request : Request) (room : ℕ) (reply : List ℕ) (reading : Reading) → (FieldsRefused request room → ⊥)
    → shortest_reply ≤ length reply → Right reply → Fits request reply reading → ToldBy request room reply (Ok reading)
told_right request room reply reading kept long right fits =
    ((kept, (⊎_elim (λ short. omega arith) (λ wrong. wrong right), ((λ none. none reading fits), tt))), fits)
