-- `survey` meets its contract: before each turn of the loop `search` is one that has looked at the areas before this one.
-- Assumes nothing.
use Rattle.areas.specs.Search.{Sought}
use Rattle.areas.proofs.survey.Given as goal

abbrev pub invariant-loop-area : goal.invariant-loop-area
invariant-loop-area l = Sought l.areas l.words l.fn.run l.area-index l.search
