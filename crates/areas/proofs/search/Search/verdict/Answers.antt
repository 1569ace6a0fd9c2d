-- `verdict` meets its contract.
-- Assumes nothing.
use Rattle.areas.proofs.Looking.{word_in_no_area}
use Rattle.areas.proofs.search.Search.verdict.Goals as goal

pub returns-then-self : goal.returns-then-self
returns-then-self c = λ areas words run so. word_in_no_area areas words run c.args.self so c.if-self.true
