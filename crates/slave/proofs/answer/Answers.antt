-- `answer` meets its contract: what is decided can be carried out.
-- Assumes nothing.
use Rattle.slave.proofs.Accepted.{can_be_done, exception_long}
use Rattle.slave.proofs.answer.Goals as goal

pub carry_out-requires : goal.carry_out-requires
carry_out-requires c =
    let (areas, found) = c.requires in
    let decided = c.decide-decision.ensures areas found in
    (can_be_done _ areas _ _ _ c.decide-decision.result decided, λ n is. exception_long _ areas _ _ _ _ n is decided.kind)

pub returns : goal.returns
returns c =
    let carried = c.carry_out.ensures in
    λ areas found. record { decided = rw carried.kind (c.decide-decision.ensures areas found).kind; left = carried.left }
