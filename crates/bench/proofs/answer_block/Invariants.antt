-- `answer_block` meets its contract. Invariant: the block has passed up to `from`, and what is
-- held lies inside the line's buffer.
-- Assumes nothing.
use Rattle.std.proofs.Common.{◌≡◌, ◌-◌, ◌≤◌, List, ℕ, length, take}
use Rattle.bench.specs.Blocks.{Passed}
use Rattle.bench.proofs.answer_block.Given as goal

abbrev pub invariant-loop-from : goal.invariant-loop-from
invariant-loop-from l = record {
  line_long : length l.line ≡ length l.fn.line;
  text_long : length l.text ≡ length l.fn.text;
  held_within : l.held ≤ length l.fn.line;
  in_range : l.from ≤ length l.block;
  passed : (answers : List ℕ) × Passed (take l.from l.block) l.fn.line l.fn.held l.fn.image l.line l.held l.image answers;
}

abbrev pub decreases-loop-from : goal.decreases-loop-from
decreases-loop-from l = length l.block - l.from
