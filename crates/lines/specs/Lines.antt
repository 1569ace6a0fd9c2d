-- Lines in a text that comes in blocks.
-- Assumes nothing.
use Rattle.std.specs.Prelude.{◌≡◌, cond, List, [], ◌∷◌, ◌++◌, ℕ, ◌+◌, ◌<◌, eqb, length, take}
use Rattle.promise.specs.Promise.{Decides}
use Rattle.slave.specs.Answer.{over}
use Rattle.lines.specs.declared.Taken.{Taken}

abbrev pub line_feed : ℕ
line_feed = 10

-- the characters before the first line feed; all, where there is none
unfoldable pub up_to_feed : List ℕ → List ℕ
up_to_feed [] = []
up_to_feed (c ∷ rest) = cond (eqb c line_feed) [] (c ∷ up_to_feed rest)

-- The held start of a line, and the characters of the block that follow, as far as the buffer goes. What is past the buffer's end
-- is dropped.
abbrev pub heldThen : ℕ → List ℕ → List ℕ → List ℕ
heldThen held block buffer = take (length buffer) (take held buffer ++ up_to_feed block)

-- What `take_line` promises: the line so far stands in the start of the buffer, and the rest of the buffer keeps its content. The
-- line is whole if the block has a line feed, which is then used up with it.
pub record TakeLine (block buffer : List ℕ) (held : ℕ) (taken : Taken) (buffer_after : List ℕ) : Type 0 where
  pub stands : buffer_after ≡ over (heldThen held block buffer) buffer
  pub told : taken.held ≡ length (heldThen held block buffer)
  pub whole_if : Decides (length (up_to_feed block) < length block) taken.whole
  pub used_up : taken.used ≡ length (up_to_feed block) + cond taken.whole 1 0
