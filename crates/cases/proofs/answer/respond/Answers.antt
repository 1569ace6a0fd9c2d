-- What goes onto the line stands inside the reply buffer.
-- Assumes nothing.
use Rattle.std.proofs.Common.{arith}
use Rattle.cases.proofs.Sent.{sent_within}
use Rattle.cases.proofs.answer.respond.Goals as goal

pub put-requires : goal.put-requires
put-requires c = omega (arith, c.to_send-to_send.ensures, sent_within _ _ c.respond_by_value-outcome.ensures)
