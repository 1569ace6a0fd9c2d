-- A list of areas as words, three for each area: first, count, access.
-- Assumes nothing.
use Rattle.std.specs.Prelude.{◌≡◌, ◌⊎◌, ◌≢◌, List, [], ◌∷◌, ℕ, Option, Result, MatchResult}
use Rattle.areas.specs.declared.Access.{Access}
use Rattle.areas.specs.declared.Access.TheVariants.{ReadOnly, ReadWrite}
use Rattle.areas.specs.declared.Area.{Area}
use Rattle.areas.specs.declared.Run.{Run}
use Rattle.areas.specs.declared.UnknownAccess.{UnknownAccess}
use Rattle.areas.specs.declared.Verdict.{Verdict}
use Rattle.areas.specs.Rules.{RulesKept}
use Rattle.areas.specs.Calls.{Survey}

abbrev pub access_word : Access → ℕ
access_word ReadOnly = 0
access_word ReadWrite = 1

-- a number that means nothing: it is that of none of the cases
abbrev pub MeansNothing : {Case : Type 0} → (Case → ℕ) → ℕ → Type 0
MeansNothing {Case} number_of n = (case : Case) → number_of case ≢ n

-- what an access word stands for: the access that has it, or nothing
abbrev pub AccessNamed : ℕ → Result Access UnknownAccess → Type 0
AccessNamed word named = MatchResult named (λ access. access_word access ≡ word) (λ unknown. (unknown.0 ≡ word) × MeansNothing access_word word)

-- the words of a list of areas, three for each: first, count, access
unfoldable pub area_words : List Area → List ℕ
area_words [] = []
area_words (area ∷ areas) = area.first ∷ area.count ∷ access_word area.access ∷ area_words areas

-- words that are those of no list
abbrev pub OfNoList : List ℕ → Type 0
OfNoList words = (areas : List Area) → area_words areas ≢ words

-- the list that words stand for: the one whose words they are. Words of no list are met as a list that breaks a rule, whichever it
-- is: refusal 3, in its place
abbrev pub StandFor : List ℕ → ℕ → List Area → Type 0
StandFor words image_words areas = (area_words areas ≡ words) ⊎ (OfNoList words × (RulesKept image_words areas → ⊥))

-- what `survey_words` promises: the finding on the list that the words stand for
abbrev pub SurveyWords : List ℕ → ℕ → Run → Option Verdict → Type 0
SurveyWords words image_words run finding = (areas : List Area) → StandFor words image_words areas → Survey areas image_words run finding
