-- The check word of a run of bytes: document 01, "The check word", and the manual, section 2.8.
-- Assumes nothing.
use Rattle.std.specs.Prelude.{Bool, true, false, List, [], ◌∷◌, ℕ, zero, suc, ◌/◌, ◌%◌, eqb}
use Rattle.std.specs.Int.Bits.{bit_xor}

-- the word before the first byte
abbrev pub start : ℕ
start = 0xffff

abbrev pub polynomial : ℕ
polynomial = 0xa001

-- the least significant bit of a number, the one that a shift right by one shifts out
abbrev pub low_bit : ℕ → Bool
low_bit x = eqb (x % 2) 1

-- exclusive-or A001 hex, if the bit shifted out was 1
unfoldable pub corrected : Bool → ℕ → ℕ
corrected true w = bit_xor w polynomial
corrected false w = w

-- shift right by one and correct
unfoldable pub step : ℕ → ℕ
step w = corrected (low_bit w) (w / 2)

-- n steps
unfoldable pub steps : ℕ → ℕ → ℕ
steps zero w = w
steps (suc n) w = steps n (step w)

-- exclusive-or a byte in, then eight times a step
unfoldable pub add_byte : ℕ → ℕ → ℕ
add_byte w b = steps 8 (bit_xor w b)

-- one byte after the other
unfoldable pub add_bytes : ℕ → List ℕ → ℕ
add_bytes w [] = w
add_bytes w (b ∷ bs) = add_bytes (add_byte w b) bs

-- the check word of the bytes
unfoldable pub check_word : List ℕ → ℕ
check_word bytes = add_bytes start bytes

-- byte by byte, the exclusive-or of two messages, as far as both go
unfoldable pub sum : List ℕ → List ℕ → List ℕ
sum [] ys = []
sum (x ∷ xs) [] = []
sum (x ∷ xs) (y ∷ ys) = bit_xor x y ∷ sum xs ys
