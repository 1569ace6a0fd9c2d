-- `respond_by_value` meets its contract: the entries that are lent are the areas of the list.
-- Assumes nothing.
use Rattle.std.proofs.Common.{◌≡◌, ap, ◌∙◌, length, take, rules}
use Rattle.areas.specs.Calls.{list_entries, listed}
use Rattle.areas.proofs.Listed.{listed_used}
use Rattle.slave.proofs.respond_by_value.Goals as goal

pub returns : goal.returns
returns c =
    let list = c.args.list in
    -- an array has as many elements as its type says
    let seventeen : length list.entries ≡ list_entries = search rules in
    let same : take c.min.result list.entries ≡ listed list =
    ap (λ n. take n list.entries) c.min.ensures ∙ listed_used list seventeen in
    rw (← same) c.respond.ensures
