-- Areas and the words that they hold. A list of areas may have any length, and its areas may stand in any order.
-- Assumes nothing.
use Rattle.std.specs.Prelude.{◌≡◌, List, ℕ, ◌+◌, ◌≤◌, ◌<◌, length, get_or}
use Rattle.areas.specs.declared.Access.{Access}
use Rattle.areas.specs.declared.Access.TheVariants.{ReadOnly}
use Rattle.areas.specs.declared.Area.{Area}

-- a word is one of the `count` words from `first` on
abbrev pub Among : ℕ → ℕ → ℕ → Type 0
Among first count word = (first ≤ word) × (word < first + count)

-- an area holds a word: first ≤ word < first + count
abbrev pub Holds : Area → ℕ → Type 0
Holds area = Among area.first area.count

-- the word behind the last one of an area
abbrev pub end_of : Area → ℕ
end_of area = area.first + area.count

-- area i of a list; past the list's end, where nothing is said of it, the empty one
abbrev pub empty_area : Area
empty_area = record { first = 0; count = 0; access = ReadOnly }

abbrev pub area_at : List Area → ℕ → Area
area_at areas i = get_or areas i empty_area

-- some area of a list is such
abbrev pub SomeArea : List Area → (Area → Type 0) → Type 0
SomeArea areas Such = (i : ℕ) × (i < length areas) × Such (area_at areas i)

-- each area of a list is such
abbrev pub EachArea : List Area → (Area → Type 0) → Type 0
EachArea areas Such = (i : ℕ) → i < length areas → Such (area_at areas i)

-- each two areas of a list are such, the earlier one named first
abbrev pub EachTwo : List Area → (Area → Area → Type 0) → Type 0
EachTwo areas Such = (i j : ℕ) → i < j → j < length areas → Such (area_at areas i) (area_at areas j)

-- a word is addressable if some area holds it ..
abbrev pub Addressable : List Area → ℕ → Type 0
Addressable areas word = SomeArea areas (λ area. Holds area word)

-- .. and otherwise it is in no area
abbrev pub InNoArea : List Area → ℕ → Type 0
InNoArea areas word = Addressable areas word → ⊥

-- a word is of an area with this access
abbrev pub OfAreaWith : Access → List Area → ℕ → Type 0
OfAreaWith access areas word = SomeArea areas (λ area. (area.access ≡ access) × Holds area word)
