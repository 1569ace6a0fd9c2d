-- The laws of the registers, each proved under its name in proofs/Laws.antt.
-- Assumes nothing.
use Rattle.std.specs.Prelude.{◌≡◌, ◌↔◌, Bool, true, List, ℕ, ◌+◌, ◌*◌, ◌/◌, ◌^◌, ◌≤◌, ◌<◌, length, take, get_or}
use Rattle.promise.specs.Promise.{Determined, Attempt}
use Rattle.registers.specs.Memory.{word_bits, byte_bits, bit, bit_among, FitIn, image_word, image_bit, from}
use Rattle.registers.specs.Packing.{bytes_for_bits, bytes_for_words, packed_bit, packed_word, BitsPacked, WordsPacked}
use Rattle.registers.specs.Storing.{Outside, BitsStored, WordsStored}
use Rattle.registers.specs.Calls.{PackBits, PackWords, StoreBit, StoreWord, StoreBits, StoreWords}

-- ---- places

-- bit address = word address × 16 + bit number
abbrev pub BitAddress : Type 0
BitAddress = (image : List ℕ) (word number : ℕ) → number < word_bits
    → image_bit image (word * word_bits + number) ≡ bit (image_word image word) number

-- bit i of byte j of a packed run is bit 8 j + i of the run, and 0 past its end
abbrev pub PackedPlace : Type 0
PackedPlace = (count : ℕ) (run : ℕ → ℕ) (bytes : List ℕ) → BitsPacked count run bytes → (j i : ℕ) → i < byte_bits
    → (j * byte_bits + i < count → bit (get_or bytes j 0) i ≡ run (j * byte_bits + i))
    × (count ≤ j * byte_bits + i → bit (get_or bytes j 0) i ≡ 0)

-- ---- storing, and then packing the same run, gives the data back

-- bits: with the spare bits as 0 ..
abbrev pub BitsBack : Type 0
BitsBack = (first count : ℕ) (bytes before after buffer filled : List ℕ) → StoreBits first count bytes before true after
    → PackBits after first count buffer true filled → BitsPacked count (packed_bit bytes) (take (bytes_for_bits count) filled)

-- .. so that bytes that are a packed run, spare bits 0 and no byte more, come back as they were
abbrev pub PackedBitsBack : Type 0
PackedBitsBack = (first count : ℕ) (bytes before after buffer filled : List ℕ) → BitsPacked count (packed_bit bytes) bytes
    → StoreBits first count bytes before true after → PackBits after first count buffer true filled
    → take (bytes_for_bits count) filled ≡ bytes

-- words: the bytes that the run takes
abbrev pub WordsBack : Type 0
WordsBack = (first count : ℕ) (bytes before after buffer filled : List ℕ) → FitIn byte_bits bytes
    → StoreWords first count bytes before true after → PackWords after first count buffer true filled
    → take (bytes_for_words count) filled ≡ take (bytes_for_words count) bytes

-- ---- storing changes nothing outside the run, whatever the answer

-- one bit, or a run of bits: no bit outside it, and no word none of whose bits is in it
abbrev pub BitsOutside : Type 1
BitsOutside = (Possible : Type 0) (first count : ℕ) (run : ℕ → ℕ) (before after : List ℕ) (r : Bool)
    → Attempt Possible (BitsStored first count run before) before r after
    → (k : ℕ) → Outside first count k → image_bit after k ≡ image_bit before k

abbrev pub WordsBesideBits : Type 1
WordsBesideBits = (Possible : Type 0) (first count : ℕ) (run : ℕ → ℕ) (before after : List ℕ) (r : Bool) → FitIn word_bits before
    → Attempt Possible (BitsStored first count run before) before r after
    → (k : ℕ) → ((p : ℕ) → p < word_bits → Outside first count (k * word_bits + p)) → image_word after k ≡ image_word before k

-- one word, or a run of words: no word outside it, and none of such a word's bits
abbrev pub WordsOutside : Type 1
WordsOutside = (Possible : Type 0) (first count : ℕ) (run : ℕ → ℕ) (before after : List ℕ) (r : Bool)
    → Attempt Possible (WordsStored first count run before) before r after
    → (k : ℕ) → Outside first count k → image_word after k ≡ image_word before k

abbrev pub BitsBesideWords : Type 1
BitsBesideWords = (Possible : Type 0) (first count : ℕ) (run : ℕ → ℕ) (before after : List ℕ) (r : Bool)
    → Attempt Possible (WordsStored first count run before) before r after
    → (k : ℕ) → Outside (first * word_bits) (count * word_bits) k → image_bit after k ≡ image_bit before k

-- ---- words are their bits

-- storing a run of words is storing the run of their bits ..
abbrev pub StoringWords : Type 0
StoringWords = (first count : ℕ) (run : ℕ → ℕ) (before after : List ℕ) → FitIn word_bits before
    → ((n : ℕ) → n < count → run n < 2 ^ word_bits)
    → (WordsStored first count run before after
    ↔ BitsStored (first * word_bits) (count * word_bits) (bit_among word_bits run) before after)

-- .. and storing a word is storing its sixteen bits
abbrev pub StoringAWord : Type 0
StoringAWord = (k value : ℕ) (before after : List ℕ) → FitIn word_bits before → value < 2 ^ word_bits
    → (WordsStored k 1 (λ n. value) before after ↔ BitsStored (k * word_bits) word_bits (bit value) before after)

-- packing words and packing their bits show the same memory: the two bytes of each word change places
abbrev pub PackingWords : Type 0
PackingWords = (image : List ℕ) (first count : ℕ) (words bits : List ℕ)
    → WordsPacked count (from first (image_word image)) words
    → BitsPacked (count * word_bits) (from (first * word_bits) (image_bit image)) bits
    → (n : ℕ) → n < count
    → (get_or bits (2 * n) 0 ≡ get_or words (2 * n + 1) 0) × (get_or bits (2 * n + 1) 0 ≡ get_or words (2 * n) 0)

-- ---- what is packed or stored, and whether it is, depends on nothing but the run and the lengths

-- two images, equally long, that agree on the bits of a run, pack equally ..
abbrev pub OnlyTheBits : Type 0
OnlyTheBits = (a b : List ℕ) (first count : ℕ) (before : List ℕ) → length a ≡ length b
    → ((n : ℕ) → n < count → image_bit a (first + n) ≡ image_bit b (first + n)) → (x y : Bool × List ℕ)
    → PackBits a first count before x.0 x.1 → PackBits b first count before y.0 y.1 → x ≡ y

-- .. and so do two that agree on the words that the run touches
abbrev pub OnlyTheTouchedWords : Type 0
OnlyTheTouchedWords = (a b : List ℕ) (first count : ℕ) (before : List ℕ) → length a ≡ length b
    → ((n : ℕ) → n < count → image_word a ((first + n) / word_bits) ≡ image_word b ((first + n) / word_bits))
    → (x y : Bool × List ℕ)
    → PackBits a first count before x.0 x.1 → PackBits b first count before y.0 y.1 → x ≡ y

abbrev pub OnlyTheWords : Type 0
OnlyTheWords = (a b : List ℕ) (first count : ℕ) (before : List ℕ) → length a ≡ length b
    → ((n : ℕ) → n < count → image_word a (first + n) ≡ image_word b (first + n)) → (x y : Bool × List ℕ)
    → PackWords a first count before x.0 x.1 → PackWords b first count before y.0 y.1 → x ≡ y

-- of the bytes, storing looks at nothing but the run: the spare bits of the last byte, and bytes past it, are ignored
abbrev pub SpareBitsIgnored : Type 0
SpareBitsIgnored = (first count : ℕ) (a b before : List ℕ) → bytes_for_bits count ≤ length a → bytes_for_bits count ≤ length b
    → ((n : ℕ) → n < count → packed_bit a n ≡ packed_bit b n) → (x y : Bool × List ℕ)
    → StoreBits first count a before x.0 x.1 → StoreBits first count b before y.0 y.1 → x ≡ y

abbrev pub FurtherBytesIgnored : Type 0
FurtherBytesIgnored = (first count : ℕ) (a b before : List ℕ) → bytes_for_words count ≤ length a → bytes_for_words count ≤ length b
    → ((n : ℕ) → n < count → packed_word a n ≡ packed_word b n) → (x y : Bool × List ℕ)
    → StoreWords first count a before x.0 x.1 → StoreWords first count b before y.0 y.1 → x ≡ y

-- ---- what is said bit by bit, or word by word, fixes every byte, every word and every length

abbrev pub BitsPackedDetermined : Type 0
BitsPackedDetermined = (count : ℕ) (run : ℕ → ℕ) → Determined (BitsPacked count run)

abbrev pub WordsPackedDetermined : Type 0
WordsPackedDetermined = (count : ℕ) (run : ℕ → ℕ) → Determined (WordsPacked count run)

abbrev pub BitsStoredDetermined : Type 0
BitsStoredDetermined = (first count : ℕ) (run : ℕ → ℕ) (before : List ℕ) → Determined (BitsStored first count run before)

abbrev pub WordsStoredDetermined : Type 0
WordsStoredDetermined = (first count : ℕ) (run : ℕ → ℕ) (before : List ℕ) → Determined (WordsStored first count run before)

-- ---- the promise of each public function determines its answer, and the buffer or image that was lent

abbrev pub PackBitsDetermined : Type 0
PackBitsDetermined = (image : List ℕ) (first count : ℕ) (before : List ℕ)
    → Determined (λ (a : Bool × List ℕ). PackBits image first count before a.0 a.1)

abbrev pub PackWordsDetermined : Type 0
PackWordsDetermined = (image : List ℕ) (first count : ℕ) (before : List ℕ)
    → Determined (λ (a : Bool × List ℕ). PackWords image first count before a.0 a.1)

abbrev pub StoreBitDetermined : Type 0
StoreBitDetermined = (k : ℕ) (on : Bool) (before : List ℕ)
    → Determined (λ (a : Bool × List ℕ). StoreBit k on before a.0 a.1)

abbrev pub StoreWordDetermined : Type 0
StoreWordDetermined = (k value : ℕ) (before : List ℕ)
    → Determined (λ (a : Bool × List ℕ). StoreWord k value before a.0 a.1)

abbrev pub StoreBitsDetermined : Type 0
StoreBitsDetermined = (first count : ℕ) (bytes before : List ℕ)
    → Determined (λ (a : Bool × List ℕ). StoreBits first count bytes before a.0 a.1)

abbrev pub StoreWordsDetermined : Type 0
StoreWordsDetermined = (first count : ℕ) (bytes before : List ℕ)
    → Determined (λ (a : Bool × List ℕ). StoreWords first count bytes before a.0 a.1)
