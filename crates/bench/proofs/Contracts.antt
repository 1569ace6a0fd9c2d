-- What the program's own functions ensure, of the contracts as the source has them (`Post`): `a` are the arguments, `r` the result, `s`
-- the parameters as the call leaves them. Nothing uses this; it is there to be checked.
-- Assumes nothing.
use mathlib.Core.Path.{◌≡◌}
use Rattle.std.specs.Prelude.{IfOk}
use Rattle.bench.specs.Bench.{registers_at_first, Stands}
use Rattle.bench.specs.Input.{LastAnswered}
use Rattle.bench.specs.Blocks.{BlockPassed}
use Rattle.bench.proofs.answer.registers_at_first.Reads as registers-at-first
use Rattle.bench.proofs.answer.answer_last.Reads as answer-last
use Rattle.bench.proofs.answer_block.Reads as answer-block

begins_so : (κs : _) (a : _) (r : _) (s : _) → registers-at-first.Post κs a r s → r ≡ registers_at_first
begins_so κs a r s p = p

passes_blocks : (κs : _) (a : _) (r : _) (s : _) → answer-block.Post κs a r s
    → IfOk r (BlockPassed a.1.0.now a.1.1.0.now a.1.1.1.0 a.1.1.1.1.0.now s.1.1.0.now s.1.1.1.1.0.now)
passes_blocks κs a r s p = p.1

ends_so : (κs : _) (a : _) (r : _) (s : _) → answer-last.Post κs a r s
    → Stands (LastAnswered a.0.now a.1.0.now s.1.0.now) a.1.1.0.now r s.1.1.0.now
ends_so κs a r s p = p
