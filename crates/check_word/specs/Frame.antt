-- Frames, as far as the check word goes: a frame ends in the check word of the rest, low byte first.
-- Assumes nothing.
use Rattle.std.specs.Prelude.{◌≡◌, Bool, List, [], ◌∷◌, ◌++◌, ℕ, ◌+◌, ◌-◌, ◌/◌, ◌%◌, ◌≤◌, ◌<◌, length, take, drop, get_or}
use Rattle.promise.specs.Promise.{Attempt}
use Rattle.check_word.specs.CheckWord.{check_word}

-- the fewest and the most bytes of a frame
abbrev pub shortest : ℕ
shortest = 4

abbrev pub longest : ℕ
longest = 256

-- each element is a byte (past the end `get_or` gives 0)
abbrev pub Bytes : List ℕ → Type 0
Bytes xs = (i : ℕ) → get_or xs i 0 < 256

-- a word as it is sent: its low byte, then its high byte
abbrev pub low_first : ℕ → List ℕ
low_first w = w % 256 ∷ w / 256 ∷ []

-- a body with its check word behind it
abbrev pub framed : List ℕ → List ℕ
framed body = body ++ low_first (check_word body)

-- a right check word: the last two bytes are the check word of the rest. Under two bytes there is none
pub record Right (frame : List ℕ) : Type 0 where
  pub enough : 2 ≤ length frame
  pub ends : drop (length frame - 2) frame ≡ low_first (check_word (take (length frame - 2) frame))

-- The check word put behind the first n bytes of a buffer, which is possible where there is room: it stands there, and the
-- bytes before and past it are as they were.
abbrev pub Put : ℕ → List ℕ → Bool → List ℕ → Type 0
Put n before =
    Attempt (n + 2 ≤ length before) (λ after. after ≡ framed (take n before) ++ drop (n + 2) before) before
