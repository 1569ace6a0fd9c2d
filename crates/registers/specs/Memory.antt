-- The image: one memory of 16-bit words, seen as words and as bits. Bit address = word address × 16 + bit number, bit 0 the
-- least significant. There is no second bit memory.
-- Assumes nothing.
use Rattle.std.specs.Prelude.{List, ℕ, ◌+◌, ◌*◌, ◌/◌, ◌%◌, ◌^◌, ◌≤◌, ◌<◌, length, get_or}

-- bits of a word, and of a byte
abbrev pub word_bits : ℕ
word_bits = 16

abbrev pub byte_bits : ℕ
byte_bits = 8

-- bit p of a number, bit 0 the least significant
unfoldable pub bit : ℕ → ℕ → ℕ
bit n p = n / 2 ^ p % 2

-- bit k of a run of numbers of `width` bits each: number k / width, at place k mod width
unfoldable pub bit_among : ℕ → (ℕ → ℕ) → ℕ → ℕ
bit_among width numbers k = bit (numbers (k / width)) (k % width)

-- each number has no more than `width` bits
abbrev pub FitIn : ℕ → List ℕ → Type 0
FitIn width numbers = (i : ℕ) → get_or numbers i 0 < 2 ^ width

-- word k, and bit k, of an image (past its end they are 0)
abbrev pub image_word : List ℕ → ℕ → ℕ
image_word image k = get_or image k 0

abbrev pub image_bit : List ℕ → ℕ → ℕ
image_bit image = bit_among word_bits (image_word image)

-- A run of bits or words is what stands at each of its places: this one starts at place `first` of a memory.
abbrev pub from : ℕ → (ℕ → ℕ) → ℕ → ℕ
from first memory n = memory (first + n)

-- a run of `count` words, or bits, from `first` on lies inside the image
abbrev pub WordsInside : List ℕ → ℕ → ℕ → Type 0
WordsInside image first count = first + count ≤ length image

abbrev pub BitsInside : List ℕ → ℕ → ℕ → Type 0
BitsInside image first count = first + count ≤ length image * word_bits
