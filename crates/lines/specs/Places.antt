-- What is said at single places of a line: for the contracts of private functions alone.
-- Assumes nothing.
use Rattle.std.specs.Prelude.{◌≡◌, Option, Some, None, List, [], ◌∷◌, map, ℕ, ◌*◌, ◌<◌, take, drop}
use Rattle.lines.specs.Hex.{blank, digit, upper, spaced}

-- what a character is the digit of, in either case; or it is no digit
abbrev pub DigitValue : ℕ → Option ℕ → Type 0
DigitValue c (Some d) = (d < 16) × (upper c ≡ digit d)
DigitValue c None = (d : ℕ) → d < 16 → upper c ≡ digit d → ⊥

-- the three characters for byte k of a line, a blank set before its first byte too
unfoldable pub piece : List ℕ → ℕ → List ℕ
piece line k = take 3 (drop (3 * k) (map upper (blank ∷ line)))

-- a byte stands at place k
abbrev pub StandsAt : List ℕ → ℕ → ℕ → Type 0
StandsAt line k byte = (byte < 256) × (piece line k ≡ spaced (byte ∷ []))

-- the byte at place k; or there is none
abbrev pub ByteAt : List ℕ → ℕ → Option ℕ → Type 0
ByteAt line k (Some byte) = StandsAt line k byte
ByteAt line k None = (byte : ℕ) → StandsAt line k byte → ⊥
