-- `read_frame` meets its contract. Invariant: the bytes at the first k places are put over the start of the buffer.
-- Assumes nothing.
use Rattle.lines.proofs.Stands.{Filled}
use Rattle.lines.proofs.read_frame.Given as goal

abbrev pub invariant-loop-k : goal.invariant-loop-k
invariant-loop-k l = Filled l.line l.k l.initial.read l.read
