-- The rules of a list of areas, for an image of `words` words.
-- Assumes nothing.
use Rattle.std.specs.Prelude.{◌≡◌, List, ℕ, ◌≤◌, ◌<◌, length}
use Rattle.areas.specs.declared.Area.{Area}
use Rattle.areas.specs.Holding.{Holds, end_of, EachArea, EachTwo}

-- the list has 0 to 16 entries
abbrev pub most_areas : ℕ
most_areas = 16

abbrev pub AtMostSixteen : List Area → Type 0
AtMostSixteen areas = length areas ≤ most_areas

-- an area has a count of at least 1
abbrev pub NoneEmpty : List Area → Type 0
NoneEmpty areas = EachArea areas (λ area. 1 ≤ area.count)

-- areas ascend ..
abbrev pub Ascend : List Area → Type 0
Ascend areas = EachTwo areas (λ a b. a.first < b.first)

-- .. don't overlap: no two hold the same word ..
abbrev pub Overlap : Area → Area → Type 0
Overlap a b = (word : ℕ) × Holds a word × Holds b word

abbrev pub NoneOverlap : List Area → Type 0
NoneOverlap areas = EachTwo areas (λ a b. Overlap a b → ⊥)

-- .. and end inside the image
abbrev pub EndInside : ℕ → List Area → Type 0
EndInside words areas = EachArea areas (λ area. end_of area ≤ words)

pub record RulesKept (words : ℕ) (areas : List Area) : Type 0 where
  pub at_most_sixteen : AtMostSixteen areas
  pub none_empty : NoneEmpty areas
  pub ascend : Ascend areas
  pub none_overlap : NoneOverlap areas
  pub end_inside : EndInside words areas

-- two areas touch: the second starts where the first ends (no rule forbids it: law `MayTouch`)
abbrev pub Touch : Area → Area → Type 0
Touch a b = end_of a ≡ b.first
