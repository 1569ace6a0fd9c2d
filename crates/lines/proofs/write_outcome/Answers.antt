-- `write_outcome` meets its contract: each outcome has its arm.
-- Assumes nothing.
use Rattle.lines.specs.Outcomes.{outcome_text}
use Rattle.lines.proofs.write_outcome.Goals as goal

pub returns-in-Refused : goal.returns-in-Refused
unfolding outcome_text
returns-in-Refused c = rw c.in-Refused.is (rw c.from.ensures at c.write_number.ensures)

pub returns-in-Silent : goal.returns-in-Silent
unfolding outcome_text
returns-in-Silent c = rw c.in-Silent.is (rw c.from-in-Silent.ensures at c.write_number-in-Silent.ensures)

pub returns-in-Exception : goal.returns-in-Exception
unfolding outcome_text
returns-in-Exception c = rw c.in-Exception.is c.write_reply.ensures

pub returns-in-Reply : goal.returns-in-Reply
unfolding outcome_text
returns-in-Reply c = rw c.in-Reply.is c.write_reply-in-Reply.ensures
