-- The invariant of `copy`: the first i bytes are copied, and the others are as they were.
-- Assumes nothing.
use Rattle.std.proofs.Common.{◌≡◌, take, drop}
use Rattle.master.proofs.put.copy.Given as goal

abbrev pub invariant-loop-i : goal.invariant-loop-i
invariant-loop-i l =
    record {
      copied : take l.i l.buffer ≡ take l.i l.bytes;
      kept : drop l.i l.buffer ≡ drop l.i l.fn.buffer;
    }
