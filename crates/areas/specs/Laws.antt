-- The laws of the areas, each proved under its name in proofs/Laws.antt.
-- Assumes nothing.
use Rattle.std.specs.Prelude.{◌≡◌, ◌↔◌, List, ℕ, ◌+◌, ◌≤◌, ◌<◌, length, Option, None}
use Rattle.promise.specs.Promise.{Determined}
use Rattle.areas.specs.declared.Access.TheVariants.{ReadOnly, ReadWrite}
use Rattle.areas.specs.declared.Area.{Area}
use Rattle.areas.specs.declared.AreaList.{AreaList}
use Rattle.areas.specs.declared.Run.{Run}
use Rattle.areas.specs.declared.Verdict.{Verdict}
use Rattle.areas.specs.declared.Verdict.TheVariants.{AllReadWrite}
use Rattle.areas.specs.Holding.{Holds, end_of, area_at, SomeArea, EachArea, EachTwo, Addressable, OfAreaWith}
use Rattle.areas.specs.Rules.{most_areas, AtMostSixteen, NoneEmpty, EndInside, RulesKept, Touch}
use Rattle.areas.specs.Verdicts.{EachWord, SomeWordInNoArea, Judged}
use Rattle.areas.specs.Calls.{Survey, list_entries, listed}
use Rattle.areas.specs.Words.{StandFor, SurveyWords}

-- ---- a list that keeps the rules

-- at most one area holds a word ..
abbrev pub OneAreaHolds : Type 0
OneAreaHolds = (words : ℕ) (areas : List Area) → RulesKept words areas → (word i j : ℕ) → i < length areas → j < length areas
    → Holds (area_at areas i) word → Holds (area_at areas j) word → i ≡ j

-- .. so that no word is of a read-only area and of a read-write one
abbrev pub OneAccess : Type 0
OneAccess = (words : ℕ) (areas : List Area) → RulesKept words areas → (word : ℕ)
    → OfAreaWith ReadOnly areas word → OfAreaWith ReadWrite areas word → ⊥

-- two may touch: that areas ascend and don't overlap says no more than that each ends where a later one starts, or before
abbrev pub MayTouch : Type 0
MayTouch = (words : ℕ) (areas : List Area)
    → (RulesKept words areas
    ↔ (AtMostSixteen areas × NoneEmpty areas × EachTwo areas (λ a b. end_of a ≤ b.first) × EndInside words areas))

-- what is addressable lies inside the image: a word ..
abbrev pub WordInside : Type 0
WordInside = (words : ℕ) (areas : List Area) → RulesKept words areas → (word : ℕ) → Addressable areas word → word < words

-- .. and a run, if all its words are
abbrev pub RunInside : Type 0
RunInside = (words : ℕ) (areas : List Area) → RulesKept words areas → (first count : ℕ) → 1 ≤ count
    → EachWord first count (Addressable areas) → first + count ≤ words

-- A run from a word of area i to a word of area j: all its words are addressable exactly if each area from i on touches the next,
-- up to j. So a run may cross areas that touch, and its first and last word say nothing of a hole between.
abbrev pub RunAcross : Type 0
RunAcross = (words : ℕ) (areas : List Area) → RulesKept words areas → (i j first more : ℕ) → i < length areas → j < length areas
    → Holds (area_at areas i) first → Holds (area_at areas j) (first + more)
    → (EachWord first (more + 1) (Addressable areas)
    ↔ ((k : ℕ) → i ≤ k → k < j → Touch (area_at areas k) (area_at areas (k + 1))))

-- all read-write: each word is of a read-write area
abbrev pub ReadWriteMeans : Type 0
ReadWriteMeans = (words : ℕ) (areas : List Area) → RulesKept words areas → (first count : ℕ)
    → (Judged areas first count AllReadWrite ↔ EachWord first count (OfAreaWith ReadWrite areas))

-- ---- the verdict, whatever the list

-- no word of the run is in no area: all are addressable
abbrev pub AllAddressable : Type 0
AllAddressable = (areas : List Area) (first count : ℕ)
    → ((SomeWordInNoArea areas first count → ⊥) ↔ EachWord first count (Addressable areas))

-- there is a verdict ..
abbrev pub VerdictExists : Type 0
VerdictExists = (areas : List Area) (first count : ℕ) → (verdict : Verdict) × Judged areas first count verdict

-- .. and only one
abbrev pub JudgedDetermined : Type 0
JudgedDetermined = (areas : List Area) (first count : ℕ) → Determined (Judged areas first count)

-- it is decided by the words of the run alone: two lists that agree on each of them give the same verdict ..
abbrev pub Agree : List Area → List Area → ℕ → ℕ → Type 0
Agree a b first count = EachWord first count
    (λ word. (Addressable a word ↔ Addressable b word) × (OfAreaWith ReadOnly a word ↔ OfAreaWith ReadOnly b word))

abbrev pub DecidedByTheWords : Type 0
DecidedByTheWords = (a b : List Area) (first count : ℕ) → Agree a b first count
    → (x y : Verdict) → Judged a first count x → Judged b first count y → x ≡ y

-- .. so the order of the areas doesn't matter, nor whether one stands in the list twice
abbrev pub OrderIgnored : Type 0
OrderIgnored = (a b : List Area) (first count : ℕ) → EachArea a (λ area. SomeArea b (λ other. other ≡ area))
    → EachArea b (λ area. SomeArea a (λ other. other ≡ area))
    → (x y : Verdict) → Judged a first count x → Judged b first count y → x ≡ y

-- ---- a survey

-- what is found of a list that is too long
abbrev pub OverSixteen : Type 0
OverSixteen = (areas : List Area) (words : ℕ) (run : Run) (finding : Option Verdict) → most_areas < length areas
    → Survey areas words run finding → finding ≡ None

-- there is a finding ..
abbrev pub FindingExists : Type 0
FindingExists = (areas : List Area) (words : ℕ) (run : Run) → (finding : Option Verdict) × Survey areas words run finding

-- .. and only one: the promise determines its answer
abbrev pub SurveyDetermined : Type 0
SurveyDetermined = (areas : List Area) (words : ℕ) (run : Run) → Determined (Survey areas words run)

-- ---- a list by value

-- one with a length over 16 has too many areas, whatever its entries (an array of the source has its length: `entries` is 17)
abbrev pub ListedTooLong : Type 0
ListedTooLong = (list : AreaList) → length list.entries ≡ list_entries → most_areas < list.len → most_areas < length (listed list)

-- every list of at most 16 areas can be given by value
abbrev pub ListedBySome : Type 0
ListedBySome = (areas : List Area) → AtMostSixteen areas
    → (list : AreaList) × (length list.entries ≡ list_entries) × (listed list ≡ areas)

-- ---- a list as words

-- words stand for some list ..
abbrev pub WordsStandFor : Type 0
WordsStandFor = (area_words : List ℕ) (words : ℕ) → (areas : List Area) × StandFor area_words words areas

-- .. and there is one finding on them: the promise determines its answer
abbrev pub SurveyWordsDetermined : Type 0
SurveyWordsDetermined = (area_words : List ℕ) (words : ℕ) (run : Run) → Determined (SurveyWords area_words words run)
