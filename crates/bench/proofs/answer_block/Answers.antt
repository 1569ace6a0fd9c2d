-- `answer_block` meets its contract. Invariant: the block has passed up to `from`, and what is
-- held lies inside the line's buffer.
-- Assumes nothing.
use Rattle.std.proofs.Common.{◌≡◌, refl, [], ◌++◌, length, arith}
use Rattle.std.proofs.Math.Seq.{take-length}
use Rattle.bench.specs.Blocks.{BlockPassed}
use Rattle.bench.proofs.Passing.{nothing_passed, passed_then}
use Rattle.bench.proofs.Progressing.{part_size, came_then}
use Rattle.bench.proofs.answer_block.Goals as goal

pub loop-from-init : goal.loop-from-init
loop-from-init c = record {
  line_long = refl;
  text_long = refl;
  held_within = c.requires.held_in_bounds;
  in_range = omega arith;
  passed = ([], nothing_passed c.args.line.now c.args.image.now c.args.held);
}

pub loop-from-preserved : goal.loop-from-preserved
loop-from-preserved c =
    let inv = c.loop-from.invariant in
    let done = c.answer_lines-done.ensures.progressed in
    let passed = passed_then _ _ _ _ _ _ _ _ _ _ _ _ _ inv.passed.1 done.answered.is_of_the_kind in record {
      line_long = omega arith;
      text_long = omega arith;
      held_within = omega (arith, done.held_within, inv.line_long);
      in_range = omega (arith, done.used_within, part_size c.args.block.now c.loop-from.from);
      passed =
          (inv.passed.0 ++ done.answered.text, rw (came_then c.args.block.now c.loop-from.from c.answer_lines-done.result.used) passed);
    }

pub returns-clause-block_passed : goal.returns-clause-block_passed
unfolding BlockPassed
returns-clause-block_passed c =
    let inv = c.loop-from.invariant in
    let all : c.loop-from.from ≡ length c.args.block.now = omega (arith, inv.in_range) in
    (inv.passed.0, rw (all, take-length) at inv.passed.1)
