-- How the lines of an input are answered block by block, for the contracts of private functions alone. The line that a block has begun
-- is held in a buffer, as far as the buffer goes.
-- Assumes nothing.
use Rattle.std.specs.Prelude.{◌≡◌, List, ◌++◌, ℕ, ◌≤◌, ◌<◌, length, take}
use Rattle.bench.specs.declared.answer.Progress.{Progress}
use Rattle.bench.specs.Bench.{Stands}
use Rattle.bench.specs.Input.{Unfed, Cut, AllAnswered}

-- the first characters of a buffer are a begun line, as far as the buffer goes
pub record Holds (buffer : List ℕ) (held : ℕ) (begun : List ℕ) : Type 0 where
  pub unfed : Unfed begun
  pub start : take held buffer ≡ take (length buffer) begun

-- Characters came in behind a begun line that a buffer held. The lines that they end were answered, and what they leave begun is
-- held.
unfoldable pub Passed : (came buffer : List ℕ) (held : ℕ) (image buffer_after : List ℕ) (held_after : ℕ)
    (image_after answers : List ℕ) → Type 0
Passed came buffer held image buffer_after held_after image_after answers =
    (begun : List ℕ) → Holds buffer held begun
    → (whole : List (List ℕ)) × (rest : List ℕ) × Cut (begun ++ came) whole rest × AllAnswered whole image image_after answers
    × Holds buffer_after held_after rest

-- what was answered of a block: the characters that are used up, and their answers in the start of a text
pub record Progressed (block buffer : List ℕ) (held : ℕ) (image text : List ℕ) (done : Progress)
    (buffer_after image_after text_after : List ℕ)
    : Type 0 where
  pub used_within : done.used ≤ length block
  pub held_within : done.held ≤ length buffer
  pub answered : Stands (Passed (take done.used block) buffer held image buffer_after done.held image_after)
      text done.written text_after

-- it moves on
abbrev pub Moves : List ℕ → Progress → Type 0
Moves block done = 0 < length block → 0 < done.used

-- the whole of a block has passed, and so much is held of the line that it leaves begun
unfoldable pub BlockPassed : (block buffer : List ℕ) (held : ℕ) (image buffer_after image_after : List ℕ) (held_after : ℕ) → Type 0
BlockPassed block buffer held image buffer_after image_after held_after =
    (answers : List ℕ) × Passed block buffer held image buffer_after held_after image_after answers
