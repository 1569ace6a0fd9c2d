-- `respond_to_words` meets its contract: what was found is found of each list that the words stand for, and there is one.
-- Assumes nothing.
use Rattle.std.proofs.Common.{length}
use Rattle.areas.proofs.Words.{stands}
use Rattle.slave.proofs.respond_to_words.Goals as goal

pub answer-requires : goal.answer-requires
answer-requires c =
    let (areas, stand) = stands c.args.area_words.now (length c.args.image.now) in
    (areas, rw c.words_asked-run.ensures at c.survey_words-finding.ensures areas stand)

pub returns : goal.returns
returns c =
    λ areas stand. c.answer.ensures areas (rw c.words_asked-run.ensures at c.survey_words-finding.ensures areas stand)
