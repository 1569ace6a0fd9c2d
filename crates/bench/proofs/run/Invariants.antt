-- `run` meets what `read_block` asks. Invariant: what is held lies inside the line's buffer.
-- Assumes nothing.
use Rattle.std.proofs.Common.{◌≡◌, ◌≤◌, length}
use Rattle.bench.proofs.run.Given as goal

abbrev pub invariant-loop : goal.invariant-loop
invariant-loop l = record {
  line_long : length l.line ≡ length l.fn.line;
  text_long : length l.text ≡ length l.fn.text;
  held_within : l.held ≤ length l.fn.line;
}
