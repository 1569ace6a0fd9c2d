-- `hold` meets its contract.
-- Assumes nothing.
use Rattle.std.proofs.Common.{arith}
use Rattle.lines.proofs.Held.{held_part, held_over}
use Rattle.lines.proofs.place.hold.Goals as goal

pub returns-clause-line_after : goal.returns-clause-line_after
returns-clause-line_after c =
    let line = c.args.line.now in
    let part = c.args.part.now in
    let from = c.min-from in
    let n = c.min-n in
    rw (held_part line part c.args.held from.result n.result from.ensures n.ensures)
    (held_over line part _ from.result n.result _ (omega arith) (omega arith) (omega arith) c.copy_from_slice.ensures.after)
