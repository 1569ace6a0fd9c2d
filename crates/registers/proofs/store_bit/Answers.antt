-- `store_bit` meets its contract: one bit is a piece of a word.
-- Assumes nothing.
use Rattle.std.proofs.Common.{arith, refl, ap, ◌≡◌, ◌∙◌, Bool, true, false}
use Rattle.std.proofs.Math.Nat.{div-add-mod'}
use Rattle.std.proofs.Math.Arith.{lt-one}
use Rattle.std.specs.Int.{from_bool}
use Rattle.promise.specs.Promise.{Attempt}
use Rattle.registers.specs.Memory.{bit}
use Rattle.registers.specs.Calls.{bit_value}
use Rattle.registers.proofs.Stored.{stored_run}
use Rattle.registers.proofs.store_bit.Goals as goal

lowest : (on : Bool) → bit (from_bool on) 0 ≡ bit_value on
unfolding bit
lowest true = refl
lowest false = refl

pub returns : goal.returns
unfolding Attempt
returns c = (
  omega arith,
  stored_run (rw (div-add-mod' c.args.k 16) at c.store_piece.ensures) (λ n h. ap (bit c.from.result) (lt-one h) ∙ rw c.from.ensures (lowest c.args.on)),
)
