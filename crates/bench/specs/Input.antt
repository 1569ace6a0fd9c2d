-- The lines of an input, and their answers.
-- Assumes nothing.
use Rattle.std.specs.Prelude.{◌≡◌, List, [], ◌∷◌, ◌++◌, ℕ, get_or}
use Rattle.lines.specs.Lines.{up_to_feed}
use Rattle.lines.specs.Outcomes.{as_line}
use Rattle.bench.specs.Bench.{Answered}

-- a text without a line feed
abbrev pub Unfed : List ℕ → Type 0
Unfed text = up_to_feed text ≡ text

-- lines, each with its line feed, one behind the other
unfoldable pub joined : List (List ℕ) → List ℕ
joined [] = []
joined (line ∷ rest) = as_line line ++ joined rest

-- the whole lines of an input, and the begun line behind them
pub record Cut (input : List ℕ) (whole : List (List ℕ)) (begun : List ℕ) : Type 0 where
  pub is : input ≡ joined whole ++ begun
  pub each_unfed : (k : ℕ) → Unfed (get_or whole k [])
  pub begun_unfed : Unfed begun

-- one line after the other is answered; the registers persist between lines
unfoldable pub AllAnswered : (lines : List (List ℕ)) (image image_after text : List ℕ) → Type 0
AllAnswered [] image image_after text = (image_after ≡ image) × (text ≡ [])
AllAnswered (line ∷ rest) image image_after text =
    (between : List ℕ) × (one : List ℕ) × (others : List ℕ) × Answered line image between one
    × AllAnswered rest between image_after others × (text ≡ one ++ others)

-- at the end of the input, a last line without a line feed counts unless it is empty
unfoldable pub LastAnswered : (begun image image_after text : List ℕ) → Type 0
LastAnswered [] image image_after text = (image_after ≡ image) × (text ≡ [])
LastAnswered (c ∷ rest) image image_after text = Answered (c ∷ rest) image image_after text
