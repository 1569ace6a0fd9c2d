-- `look` meets its contract: an area breaks a rule; or it is beside the run, and brings nothing; or it meets it, and may be read-only.
-- Assumes nothing.
use Rattle.std.proofs.Common.{rules, sym}
use mathlib.Core.Logic.{inl, inr}
use mathlib.Core.Bool.{true, false≢true}
use Rattle.areas.proofs.Looking.{breaks, beside, met}
use Rattle.areas.proofs.search.Search.look.Goals as goal

pub returns-then-not-follows : goal.returns-then-not-follows
returns-then-not-follows c = breaks _ _ c.if-not-follows.ensures

pub returns-else-meets : goal.returns-else-meets
returns-else-meets c = beside _ _ c.if-not-follows.ensures _ c.end.ensures c.if-meets.ensures

-- an area that meets the run, with the access that it has
pub returns-then-eq : goal.returns-then-eq
returns-then-eq c =
    met _ _ c.if-not-follows.ensures _ c.end.ensures c.if-meets.ensures _ c.past.ensures true (λ e. inr (search rules)) (λ e. absurd (false≢true (sym e)))

pub returns-else-eq : goal.returns-else-eq
returns-else-eq c =
    met _ _ c.if-not-follows.ensures _ c.end.ensures c.if-meets.ensures _ c.past.ensures _ (λ e. inl e) (λ e. (e, search rules))
