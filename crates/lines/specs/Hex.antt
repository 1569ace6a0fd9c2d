-- Bytes in two-digit hex, and the frame that a line says.
-- Assumes nothing.
use Rattle.std.specs.Prelude.{◌≡◌, cond, Option, Some, None, List, [], ◌∷◌, map, ℕ, ◌+◌, ◌-◌, ◌/◌, ◌%◌, ◌≤◌, ltb, length, drop}
use Rattle.check_word.specs.Frame.{Bytes}
use Rattle.slave.specs.Answer.{over}

-- ---- characters, by their ASCII numbers

abbrev pub blank : ℕ
blank = 32

-- the digit of a number below 16: `0` to `9`, then `A` to `F`
abbrev pub digit : ℕ → ℕ
digit d = cond (ltb d 10) (48 + d) (55 + d)

-- either case: `a` to `f` count as `A` to `F`
unfoldable pub upper : ℕ → ℕ
upper c = cond (ltb c 97) c (cond (ltb c 103) (c - 32) c)

-- ---- bytes

-- bytes in two-digit hex, a blank before each
unfoldable pub spaced : List ℕ → List ℕ
spaced [] = []
spaced (byte ∷ rest) = blank ∷ digit (byte / 16) ∷ digit (byte % 16) ∷ spaced rest

-- the same with single blanks between the bytes alone
abbrev pub line_of : List ℕ → List ℕ
line_of bytes = drop 1 (spaced bytes)

-- the most bytes of a line's frame, and the most characters of such a line
abbrev pub most_bytes : ℕ
most_bytes = 300

abbrev pub longest_line : ℕ
longest_line = 899

-- A line says a frame: two-digit hex, either case, single blanks between bytes, up to 300 bytes. An empty line is a frame of
-- no bytes.
pub record Says (line bytes : List ℕ) : Type 0 where
  pub in_hex : map upper line ≡ line_of bytes
  pub bytes_are : Bytes bytes
  pub not_over : length bytes ≤ most_bytes

-- What `read_frame` promises. A line's frame is put over the start of the buffer, and its length is told. Other lines are bad,
-- and then nothing changes.
unfoldable pub ReadFrame : List ℕ → List ℕ → Option ℕ → List ℕ → Type 0
ReadFrame line before (Some n) after = (bytes : List ℕ) × Says line bytes × (n ≡ length bytes) × (after ≡ over bytes before)
ReadFrame line before None after = ((bytes : List ℕ) → Says line bytes → ⊥) × (after ≡ before)
