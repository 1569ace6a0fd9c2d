-- The rest of the block becomes shorter.
-- Assumes nothing.
use Rattle.std.proofs.Common.{length}
use Rattle.cases.proofs.answer_block.Given as goal

abbrev pub decreases-loop-next : goal.decreases-loop-next
decreases-loop-next l = length l.rest
