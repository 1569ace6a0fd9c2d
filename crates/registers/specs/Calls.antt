-- What each call promises. `before` is the buffer or image that is lent to it; the last two arguments, not named here, are the
-- answer, and that buffer or image as the call leaves it.
-- Assumes nothing.
use Rattle.std.specs.Prelude.{Bool, true, false, List, ℕ, ◌≤◌, length}
use Rattle.promise.specs.Promise.{Attempt}
use Rattle.registers.specs.Memory.{image_word, image_bit, from, WordsInside, BitsInside}
use Rattle.registers.specs.Packing.{bytes_for_bits, bytes_for_words, packed_bit, packed_word, BitsPacked, WordsPacked, Filled}
use Rattle.registers.specs.Storing.{BitsStored, WordsStored}

-- ---- a run of the image, packed into the start of a buffer

abbrev pub PackBits : List ℕ → ℕ → ℕ → List ℕ → Bool → List ℕ → Type 0
PackBits image first count before =
    Attempt (BitsInside image first count × (bytes_for_bits count ≤ length before))
    (Filled (bytes_for_bits count) (BitsPacked count (from first (image_bit image))) before) before

abbrev pub PackWords : List ℕ → ℕ → ℕ → List ℕ → Bool → List ℕ → Type 0
PackWords image first count before =
    Attempt (WordsInside image first count × (bytes_for_words count ≤ length before))
    (Filled (bytes_for_words count) (WordsPacked count (from first (image_word image))) before) before

-- ---- a run stored in the image: one bit, one word, a run of bits, a run of words

-- a bit that is on is 1
abbrev pub bit_value : Bool → ℕ
bit_value true = 1
bit_value false = 0

abbrev pub StoreBit : ℕ → Bool → List ℕ → Bool → List ℕ → Type 0
StoreBit k on before = Attempt (BitsInside before k 1) (BitsStored k 1 (λ n. bit_value on) before) before

abbrev pub StoreWord : ℕ → ℕ → List ℕ → Bool → List ℕ → Type 0
StoreWord k value before = Attempt (WordsInside before k 1) (WordsStored k 1 (λ n. value) before) before

abbrev pub StoreBits : ℕ → ℕ → List ℕ → List ℕ → Bool → List ℕ → Type 0
StoreBits first count bytes before =
    Attempt (BitsInside before first count × (bytes_for_bits count ≤ length bytes))
    (BitsStored first count (packed_bit bytes) before) before

abbrev pub StoreWords : ℕ → ℕ → List ℕ → List ℕ → Bool → List ℕ → Type 0
StoreWords first count bytes before =
    Attempt (WordsInside before first count × (bytes_for_words count ≤ length bytes))
    (WordsStored first count (packed_word bytes) before) before
