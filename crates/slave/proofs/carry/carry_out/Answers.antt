-- `carry_out` meets its contract: each decision has its arm.
-- Assumes nothing.
use Rattle.std.proofs.Common.{refl}
use Rattle.slave.proofs.carry.carry_out.Goals as goal

pub except-requires : goal.except-requires
except-requires c = let (room, long) = rw c.in-Exception.is at c.requires in (long _ refl, room)
