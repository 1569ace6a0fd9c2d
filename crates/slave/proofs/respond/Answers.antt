-- `respond` meets its contract: what was found is found of the areas that are lent. What `answer` says of the last image and reply is
-- passed on as it is.
-- Assumes nothing.
use Rattle.slave.proofs.respond.Goals as goal

pub answer-requires : goal.answer-requires
answer-requires c = (c.args.areas.now, rw c.words_asked-run.ensures at c.survey-finding.ensures)

pub returns : goal.returns
returns c = c.answer.ensures c.args.areas.now (rw c.words_asked-run.ensures at c.survey-finding.ensures)
