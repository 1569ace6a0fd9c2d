-- A line's frame has at most 300 bytes.
-- Assumes nothing.
use Rattle.std.proofs.Common.{arith}
use Rattle.lines.specs.Hex.{ReadFrame}
use Rattle.cases.proofs.ask.read_bytes.Goals as goal

pub shared_ref_as_front-result : goal.shared_ref_as_front-result
unfolding ReadFrame
shared_ref_as_front-result c = let read = c.in_ok-n.ensures in omega (arith, read.1.not_over, read.2)
