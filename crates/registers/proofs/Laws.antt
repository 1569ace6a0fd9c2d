-- The laws of the registers, as specs/Laws.antt states them.
-- Assumes nothing.
use mathlib.Core.Path.{◌≡◌, sym, ap, ap₂, ◌∙◌}
use mathlib.Core.Bool.{true, false}
use mathlib.Core.List.{List}
use Prim.Native.Nat.{ℕ, ◌+◌, ◌*◌, ◌%◌, ◌<◌}
use native.Mathlib.Nat.{mod-eq_of_lt}
use native.Mathlib.Omega.{arith}
use lib.ListN.{take, get_or}
use lib.Seq.{length-take-le, get_or-take}
use Rattle.promise.specs.Promise.{Attempt}
use Rattle.promise.proofs.Promise.{attempt_determined, attempt_map}
use Rattle.registers.specs.Laws as laws
use Rattle.registers.specs.Memory.{bit, bit_among, image_word, image_bit, from}
use Rattle.registers.specs.Packing.{bytes_for_bits, bytes_for_words, packed_bit, packed_word, BitsPacked, WordsPacked}
use Rattle.registers.specs.Calls.{bit_value}
use Rattle.registers.proofs.Numbers.{bit_at-number, numbers_take}
use Rattle.registers.proofs.Packed.{bits_packed_run, words_packed_run}
use Rattle.registers.proofs.Filled.{filled_shown}
use Rattle.registers.proofs.Stored.{stored_run, words_stored_run}
use Rattle.registers.proofs.Determined.{bits_packed_determined, bytes_of_words, words_packed_determined, filled_determined, bits_stored_determined, words_stored_determined}
use Rattle.registers.proofs.Words.{words_beside_bits, bits_beside_words, words_as_bits, bits_as_words, bytes_swapped}

-- ---- places

pub BitAddress : laws.BitAddress
BitAddress = bit_at-number 16

pub PackedPlace : laws.PackedPlace
PackedPlace count run bytes p j i h = (
  λ inside. sym (bit_at-number 8 bytes j i h) ∙ p.shown (j * 8 + i) inside,
  λ past. sym (bit_at-number 8 bytes j i h) ∙ p.spare (j * 8 + i) past,
)

-- ---- storing, and then packing the same run

pub BitsBack : laws.BitsBack
unfolding Attempt
BitsBack first count bytes before after buffer filled s p =
    bits_packed_run p.1.front s.1.stored

pub PackedBitsBack : laws.PackedBitsBack
PackedBitsBack first count bytes before after buffer filled packed s p =
    bits_packed_determined count (packed_bit bytes) (take (bytes_for_bits count) filled) bytes
    (BitsBack first count bytes before after buffer filled s p) packed

pub WordsBack : laws.WordsBack
unfolding Attempt
WordsBack first count bytes before after buffer filled fit s p =
    let size = 2 * count in
    let there : (i : ℕ) → i < size → get_or (take size bytes) i 0 ≡ get_or bytes i 0 = λ i h. get_or-take size bytes i 0 h in
    let out = p.1.front in
    bytes_of_words count (take size filled) (take size bytes) out.size (length-take-le size bytes s.0.1) out.bytes_fit
    (numbers_take 8 size bytes fit)
    (λ n h. out.shown n h ∙ s.1.stored n h
    ∙ ap₂ (λ (hi lo : ℕ). hi * 256 + lo) (sym (there (2 * n) (omega arith))) (sym (there (2 * n + 1) (omega arith))))

-- ---- outside the run

pub BitsOutside : laws.BitsOutside
unfolding Attempt
BitsOutside Possible first count run before after true s k out = s.1.kept k out
BitsOutside Possible first count run before after false s k out = ap (λ (image : List ℕ). image_bit image k) s.1

pub WordsBesideBits : laws.WordsBesideBits
unfolding Attempt
WordsBesideBits Possible first count run before after true fit s k out = words_beside_bits first count run before after fit s.1 k out
WordsBesideBits Possible first count run before after false fit s k out = ap (λ (image : List ℕ). image_word image k) s.1

pub WordsOutside : laws.WordsOutside
unfolding Attempt
WordsOutside Possible first count run before after true s k out = s.1.kept k out
WordsOutside Possible first count run before after false s k out = ap (λ (image : List ℕ). image_word image k) s.1

pub BitsBesideWords : laws.BitsBesideWords
unfolding Attempt
BitsBesideWords Possible first count run before after true s k out = bits_beside_words first count run before after s.1 k out
BitsBesideWords Possible first count run before after false s k out = ap (λ (image : List ℕ). image_bit image k) s.1

-- ---- words are their bits

pub StoringWords : laws.StoringWords
StoringWords first count run before after fit small =
    (words_as_bits first count run before after fit small, bits_as_words first count run before after fit small)

one_word : (value n : ℕ) → n < 16 → bit_among 16 (λ i. value) n ≡ bit value n
unfolding bit_among
one_word value n h = ap (bit value) (mod-eq_of_lt h)

pub StoringAWord : laws.StoringAWord
StoringAWord k value before after fit small =
    let both = StoringWords k 1 (λ n. value) before after fit (λ n h. small) in
    let same : (n : ℕ) → n < 16 → bit_among 16 (λ i. value) n ≡ bit value n = λ n h. one_word value n h in (
      λ s. stored_run (both.0 s) same,
      λ s. both.1 (stored_run s (λ n h. sym (same n h))),
    )

pub PackingWords : laws.PackingWords
PackingWords = bytes_swapped

-- ---- what is said bit by bit determines

pub BitsPackedDetermined : laws.BitsPackedDetermined
BitsPackedDetermined = bits_packed_determined

pub WordsPackedDetermined : laws.WordsPackedDetermined
WordsPackedDetermined = words_packed_determined

pub BitsStoredDetermined : laws.BitsStoredDetermined
BitsStoredDetermined = bits_stored_determined

pub WordsStoredDetermined : laws.WordsStoredDetermined
WordsStoredDetermined = words_stored_determined

-- ---- each promise determines

pub PackBitsDetermined : laws.PackBitsDetermined
PackBitsDetermined image first count before =
    attempt_determined _ _ before
    (λ possible. filled_determined (bytes_for_bits count) (BitsPacked count (from first (image_bit image))) before (bits_packed_determined count (from first (image_bit image))))

pub PackWordsDetermined : laws.PackWordsDetermined
PackWordsDetermined image first count before =
    attempt_determined _ _ before
    (λ possible. filled_determined (bytes_for_words count) (WordsPacked count (from first (image_word image))) before (words_packed_determined count (from first (image_word image))))

pub StoreBitDetermined : laws.StoreBitDetermined
StoreBitDetermined k on before = attempt_determined _ _ before (λ possible. bits_stored_determined k 1 (λ n. bit_value on) before)

pub StoreWordDetermined : laws.StoreWordDetermined
StoreWordDetermined k value before = attempt_determined _ _ before (λ possible. words_stored_determined k 1 (λ n. value) before)

pub StoreBitsDetermined : laws.StoreBitsDetermined
StoreBitsDetermined first count bytes before =
    attempt_determined _ _ before (λ possible. bits_stored_determined first count (packed_bit bytes) before)

pub StoreWordsDetermined : laws.StoreWordsDetermined
StoreWordsDetermined first count bytes before =
    attempt_determined _ _ before (λ possible. words_stored_determined first count (packed_word bytes) before)

-- ---- nothing but the run

pub OnlyTheBits : laws.OnlyTheBits
OnlyTheBits a b first count before long same x y p q =
    PackBitsDetermined b first count before x y
    (attempt_map _ _ _ _ before x.0 x.1 (λ h. h) (λ h. h)
    (filled_shown (bytes_for_bits count) _ _ before x.1 (λ d. bits_packed_run d same)) (rw long at p))
    q

pub OnlyTheTouchedWords : laws.OnlyTheTouchedWords
unfolding bit_among
OnlyTheTouchedWords a b first count before long same =
    OnlyTheBits a b first count before long (λ n h. ap (λ (w : ℕ). bit w ((first + n) % 16)) (same n h))

pub OnlyTheWords : laws.OnlyTheWords
OnlyTheWords a b first count before long same x y p q =
    PackWordsDetermined b first count before x y
    (attempt_map _ _ _ _ before x.0 x.1 (λ h. h) (λ h. h)
    (filled_shown (bytes_for_words count) _ _ before x.1 (λ d. words_packed_run d same)) (rw long at p))
    q

pub SpareBitsIgnored : laws.SpareBitsIgnored
SpareBitsIgnored first count a b before ea eb same x y p q =
    StoreBitsDetermined first count b before x y
    (attempt_map _ _ _ _ before x.0 x.1 (λ h. (h.0, eb)) (λ h. (h.0, ea))
    (λ s. stored_run s same) p)
    q

pub FurtherBytesIgnored : laws.FurtherBytesIgnored
FurtherBytesIgnored first count a b before ea eb same x y p q =
    StoreWordsDetermined first count b before x y
    (attempt_map _ _ _ _ before x.0 x.1 (λ h. (h.0, eb)) (λ h. (h.0, ea))
    (λ s. words_stored_run s same) p)
    q
