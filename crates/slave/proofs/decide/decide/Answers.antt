-- `decide` meets its contract.
-- Assumes nothing.
use Rattle.std.proofs.Common.{arith}
use mathlib.Core.Logic.{⊎_elim}
use Rattle.slave.proofs.Lines.{past}
use Rattle.slave.proofs.decide.decide.Goals as goal

pub returns : goal.returns
returns c = λ areas found.
    let (kept, judged) = rw c.in-Some.is at found in
    past c.if-station-eq0.false (past (⊎_elim c.if-words-eq0.false (λ more. omega arith))
    (past (λ broken. broken kept) (past (λ few. omega arith) (c.decide_frame.ensures areas judged))))
