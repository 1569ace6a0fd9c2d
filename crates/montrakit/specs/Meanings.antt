-- What the numbers stand for that a caller hands over: a byte for a counting and for a state. (Three words for an area: areas,
-- `Words`. The number of a function: `function_number` of master, `Requests`.)
-- Assumes nothing.
use Rattle.std.specs.Prelude.{ℕ}
use Rattle.slave.specs.declared.Counting.{Counting}
use Rattle.slave.specs.declared.Counting.TheVariants.{ModBus, JBus}
use Rattle.slave.specs.declared.State.{State}
use Rattle.slave.specs.declared.State.TheVariants.{Ready, NotReady, AtTheKeyboard}

abbrev pub counting_byte : Counting → ℕ
counting_byte ModBus = 0
counting_byte JBus = 1

abbrev pub state_byte : State → ℕ
state_byte Ready = 0
state_byte NotReady = 1
state_byte AtTheKeyboard = 2
