-- `meets` meets its contract: where each begins before the other ends, they share a word if the run has one.
-- Assumes nothing.
use Rattle.std.proofs.Common.{arith, rules}
use Rattle.areas.proofs.Looking.{meets_some}
use Rattle.areas.proofs.search.Search.meets.Goals as goal

pub returns : goal.returns
returns c =
    meets_some c.args.area c.args.self.first c.args.self.end (omega arith) (omega arith) (omega arith) _ (search rules)
