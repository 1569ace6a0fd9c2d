-- An image after a run of bits or words was stored in it: the run's where the run is, and what it was elsewhere.
-- Assumes nothing.
use Rattle.std.specs.Prelude.{◌≡◌, ◌⊎◌, List, ℕ, ◌+◌, ◌≤◌, ◌<◌, length}
use Rattle.registers.specs.Memory.{word_bits, FitIn, image_word, image_bit}

-- place k lies before the run of `count` places from `first` on, or behind it
abbrev pub Outside : ℕ → ℕ → ℕ → Type 0
Outside first count k = (k < first) ⊎ (first + count ≤ k)

-- a run of bits (they fix a word only if it has no more than sixteen)
pub record BitsStored (first count : ℕ) (run : ℕ → ℕ) (before after : List ℕ) : Type 0 where
  pub as_long : length after ≡ length before
  pub words_fit : FitIn word_bits after
  pub stored : (n : ℕ) → n < count → image_bit after (first + n) ≡ run n
  pub kept : (k : ℕ) → Outside first count k → image_bit after k ≡ image_bit before k

-- a run of words
pub record WordsStored (first count : ℕ) (run : ℕ → ℕ) (before after : List ℕ) : Type 0 where
  pub as_long : length after ≡ length before
  pub stored : (n : ℕ) → n < count → image_word after (first + n) ≡ run n
  pub kept : (k : ℕ) → Outside first count k → image_word after k ≡ image_word before k
