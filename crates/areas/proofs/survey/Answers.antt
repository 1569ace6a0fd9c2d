-- `survey` meets its contract: a look makes the next search, or an area breaks a rule; behind the last area there is a verdict.
-- Assumes nothing.
use Rattle.std.proofs.Common.{◌≡◌, length, refl, arith}
use Rattle.areas.proofs.Chain.{chain_kept}
use Rattle.areas.proofs.survey.Goals as goal

pub loop-area-init : goal.loop-area-init
loop-area-init c = c.begin-search.ensures c.args.areas.now

pub returns-in_err-search : goal.returns-in_err-search
returns-in_err-search c =
    rw c.from_residual.ensures
    (c.in_err-search.ensures c.args.areas.now c.args.words c.args.run c.loop-area.area-index (omega arith) refl c.loop-area.invariant)

pub returns : goal.returns
returns c =
    let all : c.loop-area.area-index ≡ length c.args.areas.now = omega arith in
    let so = rw all at c.loop-area.invariant in
    (chain_kept _ _ so.chain (omega arith), c.verdict.ensures c.args.areas.now c.args.words c.args.run so)
