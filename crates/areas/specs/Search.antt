-- For the contracts of private functions alone; no public promise cites it: what a search of a list knows on its way.
-- Assumes nothing.
use Rattle.std.specs.Prelude.{◌≡◌, true, false, List, ℕ, ◌+◌, ◌≤◌, ◌<◌, length, Option, MatchOption}
use Rattle.areas.specs.declared.Access.TheVariants.{ReadOnly}
use Rattle.areas.specs.declared.Area.{Area}
use Rattle.areas.specs.declared.Run.{Run}
use Rattle.areas.specs.declared.Verdict.{Verdict}
use Rattle.areas.specs.declared.search.Search.{Search}
use Rattle.areas.specs.Holding.{Holds, area_at, Addressable}
use Rattle.areas.specs.Rules.{RulesKept}
use Rattle.areas.specs.Verdicts.{SomeWordReadOnly, Judged}
use Rattle.areas.specs.Following.{end_before, Chain}

-- the first word from `word` on that an area doesn't hold
pub record Past (area : Area) (word result : ℕ) : Type 0 where
  pub onward : word ≤ result
  pub held : (w : ℕ) → word ≤ w → w < result → Holds area w
  pub not_held : Holds area result → ⊥

-- an area holds a word from `first` on before `end`
abbrev pub Meets : Area → ℕ → ℕ → Type 0
Meets area first end = (word : ℕ) × (first ≤ word) × (word < end) × Holds area word

-- what is known after a look at the first `seen` areas, which kept the rules
pub record Sought (areas : List Area) (words : ℕ) (run : Run) (seen : ℕ) (s : Search) : Type 0 where
  pub image : s.words ≡ words
  pub starts : s.first ≡ run.first
  pub ends : s.end ≡ run.first + run.count
  pub chain : Chain words areas seen
  pub behind : s.from ≡ end_before areas seen
  pub not_before : run.first ≤ s.reached
  pub covered : (w : ℕ) → run.first ≤ w → w < s.reached → Addressable areas w
  pub passed : s.reached < s.end → (i : ℕ) → i < seen → Holds (area_at areas i) s.reached → ⊥
  pub found : s.read_only ≡ true → SomeWordReadOnly areas run.first run.count
  pub not_found : s.read_only ≡ false → (i : ℕ) → i < seen → (area_at areas i).access ≡ ReadOnly
      → Meets (area_at areas i) s.first s.end → ⊥

-- ---- what the functions of the search promise, of any list that is searched

abbrev pub Begun : ℕ → Run → Search → Type 0
Begun words run s = (areas : List Area) → Sought areas words run 0 s

abbrev pub Looked : Search → Area → Option Search → Type 0
Looked s area r = (areas : List Area) (words : ℕ) (run : Run) (seen : ℕ) → seen < length areas → area_at areas seen ≡ area
    → Sought areas words run seen s → MatchOption r (RulesKept words areas → ⊥) (λ next. Sought areas words run (seen + 1) next)

abbrev pub Judges : Search → Verdict → Type 0
Judges s verdict = (areas : List Area) (words : ℕ) (run : Run) → Sought areas words run (length areas) s
    → Judged areas run.first run.count verdict
