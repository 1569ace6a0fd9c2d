-- `answer_next` meets its contract: a line that is not whole stays begun, and a whole one is answered.
-- Assumes nothing.
use Rattle.std.proofs.Common.{arith}
use borrow.Author.Tests.{not-true, not-false}
use Rattle.bench.proofs.Standing.{stands_none, stands_as}
use Rattle.bench.proofs.Taking.{held_within, used_within, line_begun, line_answered}
use Rattle.bench.proofs.answer.answer_next.Goals as goal

pub returns-then-not-taken-clause-progressed : goal.returns-then-not-taken-clause-progressed
returns-then-not-taken-clause-progressed c =
    let took = c.take_line-taken.ensures in record {
      used_within = used_within _ _ _ _ _ took;
      held_within = held_within _ _ _ _ _ took;
      answered = stands_none _ _ (line_begun _ _ _ _ _ took _ (not-true _ c.if-not-taken.true));
    }

pub returns-clause-progressed : goal.returns-clause-progressed
returns-clause-progressed c =
    let took = c.take_line-taken.ensures in record {
      used_within = used_within _ _ _ _ _ took;
      held_within = omega arith;
      answered =
          stands_as _ _ _ _ c.answer-written.ensures _
          (λ text. line_answered _ _ _ _ _ took _ _ text (not-false _ c.if-not-taken.false) c.requires.longest_line_in_bounds);
    }
