-- `answer_lines` meets its contract. Invariant: what is used up so far is answered, and nothing is written before something is
-- used up.
-- Assumes nothing.
use Rattle.std.proofs.Common.{refl, arith}
use Rattle.bench.proofs.Progressing.{moved_on, text_size, no_progress, progress_then}
use Rattle.bench.proofs.answer.answer_lines.Goals as goal

pub loop-used-init : goal.loop-used-init
loop-used-init c = record {
  line_long = refl;
  text_long = refl;
  none_yet = λ e. refl;
  progressed =
      no_progress c.args.block.now c.args.line.now c.args.held c.args.image.now c.args.text.now c.requires.held_in_bounds;
}

pub loop-used-preserved : goal.loop-used-preserved
loop-used-preserved c =
    let inv = c.loop-used.invariant in
    let next = c.answer_next-done.ensures in
    let more = progress_then _ _ _ _ _ _ _ _ _ inv.progressed inv.line_long _ _ _ _ next.progressed in
    let moved = moved_on c.args.block.now c.loop-used.used _ (omega arith) next.moves in
    let size = text_size _ _ _ _ _ _ _ _ _ more in record {
      line_long = omega arith;
      text_long = size;
      none_yet = λ none. absurd (omega (arith, none, moved));
      progressed = more;
    }
