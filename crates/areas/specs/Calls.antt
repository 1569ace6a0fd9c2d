-- What `survey` promises, and the areas of a list by value.
-- Assumes nothing.
use Rattle.std.specs.Prelude.{List, ℕ, take, Option, Some, None}
use Rattle.areas.specs.declared.Area.{Area}
use Rattle.areas.specs.declared.AreaList.{AreaList}
use Rattle.areas.specs.declared.Run.{Run}
use Rattle.areas.specs.declared.Verdict.{Verdict}
use Rattle.areas.specs.Rules.{RulesKept}
use Rattle.areas.specs.Verdicts.{Judged}

-- the list breaks a rule, or it keeps them all, and this is its verdict on the run
abbrev pub Survey : List Area → ℕ → Run → Option Verdict → Type 0
Survey areas words run None = RulesKept words areas → ⊥
Survey areas words run (Some verdict) = RulesKept words areas × Judged areas run.first run.count verdict

-- a list by value has seventeen entries, one more than a list may have ..
abbrev pub list_entries : ℕ
list_entries = 17

-- .. and its areas are the first `len` of them (all of them, if `len` is over 17: too many as well)
abbrev pub listed : AreaList → List Area
listed list = take list.len list.entries
