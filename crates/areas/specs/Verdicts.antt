-- The verdict on a run of `count` words from `first` on.
-- Assumes nothing.
use Rattle.std.specs.Prelude.{List, ℕ}
use Rattle.areas.specs.declared.Access.TheVariants.{ReadOnly}
use Rattle.areas.specs.declared.Area.{Area}
use Rattle.areas.specs.declared.Verdict.{Verdict}
use Rattle.areas.specs.declared.Verdict.TheVariants.{SomeInNoArea, SomeReadOnly, AllReadWrite}
use Rattle.areas.specs.Holding.{Among, InNoArea, OfAreaWith}

-- some word of the run is such
abbrev pub SomeWord : ℕ → ℕ → (ℕ → Type 0) → Type 0
SomeWord first count Such = (word : ℕ) × Among first count word × Such word

-- each word of the run is such
abbrev pub EachWord : ℕ → ℕ → (ℕ → Type 0) → Type 0
EachWord first count Such = (word : ℕ) → Among first count word → Such word

-- some word of the run is in no area
abbrev pub SomeWordInNoArea : List Area → ℕ → ℕ → Type 0
SomeWordInNoArea areas first count = SomeWord first count (InNoArea areas)

-- some word of the run is of a read-only area (even if it is also of a read-write one, where areas overlap)
abbrev pub SomeWordReadOnly : List Area → ℕ → ℕ → Type 0
SomeWordReadOnly areas first count = SomeWord first count (OfAreaWith ReadOnly areas)

-- The first of these lines that applies decides. For a run of no words the last one applies.
abbrev pub Judged : List Area → ℕ → ℕ → Verdict → Type 0
Judged areas first count SomeInNoArea = SomeWordInNoArea areas first count
Judged areas first count SomeReadOnly = (SomeWordInNoArea areas first count → ⊥) × SomeWordReadOnly areas first count
Judged areas first count AllReadWrite = (SomeWordInNoArea areas first count → ⊥) × (SomeWordReadOnly areas first count → ⊥)
