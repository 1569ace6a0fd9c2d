-- Line bits, the places at which those of two frames differ, and the three kinds of damage of the third demand.
-- Assumes nothing.
use Rattle.std.specs.Prelude.{◌≡◌, Bool, true, false, List, [], ◌∷◌, ◌++◌, ℕ, zero, suc, ◌+◌, ◌/◌, ◌%◌, ◌≤◌, ◌<◌, length, get_or}
use Rattle.std.specs.Bool.{xor}
use Rattle.check_word.specs.CheckWord.{low_bit}
use Rattle.check_word.specs.Frame.{shortest, longest, Bytes, Right}

-- the n lowest bits of a number, least significant first
unfoldable pub bits : ℕ → ℕ → List Bool
bits zero x = []
bits (suc n) x = low_bit x ∷ bits n (x / 2)

-- the bits of a frame in sending order: bytes in order, least significant bit of each first
unfoldable pub line_bits : List ℕ → List Bool
line_bits [] = []
line_bits (b ∷ bs) = bits 8 b ++ line_bits bs

-- bit by bit, as far as both go, whether two runs of bits differ
unfoldable pub differences : List Bool → List Bool → List Bool
differences [] ys = []
differences (x ∷ xs) [] = []
differences (x ∷ xs) (y ∷ ys) = xor x y ∷ differences xs ys

-- the places of the bits that are 1; the first bit has place k
unfoldable pub ones_at : ℕ → List Bool → List ℕ
ones_at k [] = []
ones_at k (false ∷ xs) = ones_at (suc k) xs
ones_at k (true ∷ xs) = k ∷ ones_at (suc k) xs

-- the places, counted from 0, of the line bits in which two frames differ
abbrev pub differ_at : List ℕ → List ℕ → List ℕ
differ_at f g = ones_at 0 (differences (line_bits f) (line_bits g))

-- two flips
abbrev pub ExactlyTwo : List ℕ → Type 0
ExactlyTwo places = length places ≡ 2

-- any odd number of flips
abbrev pub OddInNumber : List ℕ → Type 0
OddInNumber places = length places % 2 ≡ 1

-- how many neighbouring line bits a window has
abbrev pub window : ℕ
window = 16

-- any number of flips, at least one, inside 16 neighbouring line bits: the places first to first + 15, of which some may
-- lie past the frame's end
pub record InsideWindow (places : List ℕ) : Type 0 where
  pub some : 1 ≤ length places
  pub first : ℕ
  pub inside : (i : ℕ) → i < length places → (first ≤ get_or places i 0) × (get_or places i 0 < first + window)

-- damage that the check word always shows, by the places of the flips
pub data Shown (places : List ℕ) : Type 0 where
  two : ExactlyTwo places → Shown places
  odd : OddInNumber places → Shown places
  burst : InsideWindow places → Shown places

-- a frame f with a right check word was sent, and g was received, as long as f and damaged in one of the three kinds
pub record Damaged (f g : List ℕ) : Type 0 where
  pub sent_bytes : Bytes f
  pub at_least : shortest ≤ length f
  pub at_most : length f ≤ longest
  pub right : Right f
  pub received_bytes : Bytes g
  pub as_long : length g ≡ length f
  pub shown : Shown (differ_at f g)
