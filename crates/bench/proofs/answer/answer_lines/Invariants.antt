-- `answer_lines` meets its contract. Invariant: what is used up so far is answered, and nothing is written before something is
-- used up.
-- Assumes nothing.
use Rattle.std.proofs.Common.{◌≡◌, ◌-◌, length}
use Rattle.bench.specs.Blocks.{Progressed}
use Rattle.bench.proofs.Progressing.{progress}
use Rattle.bench.proofs.answer.answer_lines.Given as goal

abbrev pub invariant-loop-used : goal.invariant-loop-used
invariant-loop-used l = record {
  line_long : length l.line ≡ length l.fn.line;
  text_long : length l.text ≡ length l.fn.text;
  none_yet : l.used ≡ 0 → l.written ≡ 0;
  progressed : Progressed l.block l.fn.line l.fn.held l.fn.image l.fn.text (progress l.used l.held l.written) l.line l.image l.text;
}

abbrev pub decreases-loop-used : goal.decreases-loop-used
decreases-loop-used l = length l.block - l.used
