-- The laws on answers, of the contracts as the source has them (`Post` is what a function ensures, `Pre` what it requires):
-- `a` are the arguments, `r` the result, `s` the parameters as the call leaves them. `a.0` is the image, `a.1.0` the first
-- place, `a.1.1.0` the count (or the bit or word to store), `a.1.1.1.0` the buffer or the bytes.
-- Assumes nothing.
use mathlib.Core.Path.{◌≡◌, refl}
use mathlib.Core.Bool.{Bool}
use mathlib.Core.List.{List}
use Prim.Native.Nat.{ℕ, ◌+◌, ◌*◌, ◌/◌, ◌≤◌, ◌<◌}
use lib.ListN.{length, take}
use Rattle.std.specs.Result.{is_ok}
use Rattle.std.specs.declared.result.Result.{Result}
use Rattle.std.specs.declared.result.Result.TheVariants.{Ok}
use Rattle.promise.proofs.Promise.{answers_by_ok}
use Rattle.registers.specs.declared.OutOfRange.{OutOfRange}
use Rattle.registers.specs.Memory.{word_bits, byte_bits, FitIn, image_word, image_bit}
use Rattle.registers.specs.Packing.{bytes_for_bits, bytes_for_words, packed_bit, packed_word, BitsPacked}
use Rattle.registers.specs.Storing.{Outside}
use Rattle.registers.proofs.Laws as laws
use Rattle.registers.proofs.pack_bits.Reads as pack-bits
use Rattle.registers.proofs.pack_words.Reads as pack-words
use Rattle.registers.proofs.store_bit.Reads as store-bit
use Rattle.registers.proofs.store_word.Reads as Store-word
use Rattle.registers.proofs.store_bits.Reads as store-bits
use Rattle.registers.proofs.store_words.Reads as store_words_lem

-- there is one `OutOfRange`
as_answers : {x y : Result (Unit {0}) OutOfRange} {s t : List ℕ} → ◌≡◌ {A = Bool × List ℕ} (is_ok x, s) (is_ok y, t)
    → ◌≡◌ {A = Result (Unit {0}) OutOfRange × List ℕ} (x, s) (y, t)
as_answers = answers_by_ok (λ e f. refl)

-- ---- each determines its answer, and what was lent to it

pack_bits_determined : (κs : _) (a : _) (x y : Result (Unit {0}) OutOfRange) (s t : _) → pack-bits.Post κs a x s → pack-bits.Post κs a y t
    → ◌≡◌ {A = Result (Unit {0}) OutOfRange × List ℕ} (x, s.1.1.1.0.now) (y, t.1.1.1.0.now)
pack_bits_determined κs a x y s t p q =
    as_answers (laws.PackBitsDetermined a.0.now a.1.0 a.1.1.0 a.1.1.1.0.now (is_ok x, s.1.1.1.0.now) (is_ok y, t.1.1.1.0.now) p q)

pack_words_determined : (κs : _) (a : _) (x y : Result (Unit {0}) OutOfRange) (s t : _) → pack-words.Post κs a x s → pack-words.Post κs a y t
    → ◌≡◌ {A = Result (Unit {0}) OutOfRange × List ℕ} (x, s.1.1.1.0.now) (y, t.1.1.1.0.now)
pack_words_determined κs a x y s t p q =
    as_answers (laws.PackWordsDetermined a.0.now a.1.0 a.1.1.0 a.1.1.1.0.now (is_ok x, s.1.1.1.0.now) (is_ok y, t.1.1.1.0.now) p q)

store_bit_determined : (κs : _) (a : _) (x y : Result (Unit {0}) OutOfRange) (s t : _) → store-bit.Post κs a x s → store-bit.Post κs a y t
    → ◌≡◌ {A = Result (Unit {0}) OutOfRange × List ℕ} (x, s.0.now) (y, t.0.now)
store_bit_determined κs a x y s t p q =
    as_answers (laws.StoreBitDetermined a.1.0 a.1.1.0 a.0.now (is_ok x, s.0.now) (is_ok y, t.0.now) p q)

store_word_determined : (κs : _) (a : _) (x y : Result (Unit {0}) OutOfRange) (s t : _) → Store-word.Post κs a x s → Store-word.Post κs a y t
    → ◌≡◌ {A = Result (Unit {0}) OutOfRange × List ℕ} (x, s.0.now) (y, t.0.now)
store_word_determined κs a x y s t p q =
    as_answers (laws.StoreWordDetermined a.1.0 a.1.1.0 a.0.now (is_ok x, s.0.now) (is_ok y, t.0.now) p q)

store_bits_determined : (κs : _) (a : _) (x y : Result (Unit {0}) OutOfRange) (s t : _) → store-bits.Post κs a x s → store-bits.Post κs a y t
    → ◌≡◌ {A = Result (Unit {0}) OutOfRange × List ℕ} (x, s.0.now) (y, t.0.now)
store_bits_determined κs a x y s t p q =
    as_answers (laws.StoreBitsDetermined a.1.0 a.1.1.0 a.1.1.1.0.now a.0.now (is_ok x, s.0.now) (is_ok y, t.0.now) p q)

store_words_determined : (κs : _) (a : _) (x y : Result (Unit {0}) OutOfRange) (s t : _) → store_words_lem.Post κs a x s → store_words_lem.Post κs a y t
    → ◌≡◌ {A = Result (Unit {0}) OutOfRange × List ℕ} (x, s.0.now) (y, t.0.now)
store_words_determined κs a x y s t p q =
    as_answers (laws.StoreWordsDetermined a.1.0 a.1.1.0 a.1.1.1.0.now a.0.now (is_ok x, s.0.now) (is_ok y, t.0.now) p q)

-- ---- each takes any arguments

pack_bits_takes : (κs : _) (a : _) → pack-bits.Pre κs a
pack_bits_takes κs a = tt

pack_words_takes : (κs : _) (a : _) → pack-words.Pre κs a
pack_words_takes κs a = tt

store_bit_takes : (κs : _) (a : _) → store-bit.Pre κs a
store_bit_takes κs a = tt

store_word_takes : (κs : _) (a : _) → Store-word.Pre κs a
store_word_takes κs a = tt

store_bits_takes : (κs : _) (a : _) → store-bits.Pre κs a
store_bits_takes κs a = tt

store_words_takes : (κs : _) (a : _) → store_words_lem.Pre κs a
store_words_takes κs a = tt

-- ---- what was stored, and then packed out of the image that the store left, is the data

store_bits_back : (κs μs : _) (a b : _) (s t : _) → store-bits.Post κs a (Ok tt) s → pack-bits.Post μs b (Ok tt) t
    → s.0.now ≡ b.0.now → a.1.0 ≡ b.1.0 → a.1.1.0 ≡ b.1.1.0
    → BitsPacked a.1.1.0 (packed_bit a.1.1.1.0.now) (take (bytes_for_bits a.1.1.0) t.1.1.1.0.now)
store_bits_back κs μs a b s t p q image first count =
    laws.BitsBack a.1.0 a.1.1.0 a.1.1.1.0.now a.0.now s.0.now b.1.1.1.0.now t.1.1.1.0.now p
    (rw (image, first, count) q)

store_bits_back_equal : (κs μs : _) (a b : _) (s t : _) → store-bits.Post κs a (Ok tt) s → pack-bits.Post μs b (Ok tt) t
    → BitsPacked a.1.1.0 (packed_bit a.1.1.1.0.now) a.1.1.1.0.now
    → s.0.now ≡ b.0.now → a.1.0 ≡ b.1.0 → a.1.1.0 ≡ b.1.1.0
    → take (bytes_for_bits a.1.1.0) t.1.1.1.0.now ≡ a.1.1.1.0.now
store_bits_back_equal κs μs a b s t p q packed image first count =
    laws.PackedBitsBack a.1.0 a.1.1.0 a.1.1.1.0.now a.0.now s.0.now b.1.1.1.0.now t.1.1.1.0.now packed p
    (rw (image, first, count) q)

store_words_back : (κs μs : _) (a b : _) (s t : _) → store_words_lem.Post κs a (Ok tt) s → pack-words.Post μs b (Ok tt) t
    → FitIn byte_bits a.1.1.1.0.now → s.0.now ≡ b.0.now → a.1.0 ≡ b.1.0 → a.1.1.0 ≡ b.1.1.0
    → take (bytes_for_words a.1.1.0) t.1.1.1.0.now ≡ take (bytes_for_words a.1.1.0) a.1.1.1.0.now
store_words_back κs μs a b s t p q fit image first count =
    laws.WordsBack a.1.0 a.1.1.0 a.1.1.1.0.now a.0.now s.0.now b.1.1.1.0.now t.1.1.1.0.now fit p
    (rw (image, first, count) q)

-- ---- two calls of one run, on images or with bytes that agree on the run, answer equally

pack_bits_only : (κs μs : _) (a b : _) (x y : Result (Unit {0}) OutOfRange) (s t : _) → pack-bits.Post κs a x s → pack-bits.Post μs b y t
    → length a.0.now ≡ length b.0.now → a.1.0 ≡ b.1.0 → a.1.1.0 ≡ b.1.1.0 → a.1.1.1.0.now ≡ b.1.1.1.0.now
    → ((n : ℕ) → n < a.1.1.0 → image_word a.0.now ((a.1.0 + n) / word_bits) ≡ image_word b.0.now ((a.1.0 + n) / word_bits))
    → ◌≡◌ {A = Result (Unit {0}) OutOfRange × List ℕ} (x, s.1.1.1.0.now) (y, t.1.1.1.0.now)
pack_bits_only κs μs a b x y s t p q long first count buffer same =
    as_answers (laws.OnlyTheTouchedWords a.0.now b.0.now a.1.0 a.1.1.0 a.1.1.1.0.now long same (is_ok x, s.1.1.1.0.now) (is_ok y, t.1.1.1.0.now)
    p (rw (first, count, buffer) q))

pack_bits_only_bits : (κs μs : _) (a b : _) (x y : Result (Unit {0}) OutOfRange) (s t : _) → pack-bits.Post κs a x s → pack-bits.Post μs b y t
    → length a.0.now ≡ length b.0.now → a.1.0 ≡ b.1.0 → a.1.1.0 ≡ b.1.1.0 → a.1.1.1.0.now ≡ b.1.1.1.0.now
    → ((n : ℕ) → n < a.1.1.0 → image_bit a.0.now (a.1.0 + n) ≡ image_bit b.0.now (a.1.0 + n))
    → ◌≡◌ {A = Result (Unit {0}) OutOfRange × List ℕ} (x, s.1.1.1.0.now) (y, t.1.1.1.0.now)
pack_bits_only_bits κs μs a b x y s t p q long first count buffer same =
    as_answers (laws.OnlyTheBits a.0.now b.0.now a.1.0 a.1.1.0 a.1.1.1.0.now long same (is_ok x, s.1.1.1.0.now) (is_ok y, t.1.1.1.0.now)
    p (rw (first, count, buffer) q))

pack_words_only : (κs μs : _) (a b : _) (x y : Result (Unit {0}) OutOfRange) (s t : _) → pack-words.Post κs a x s → pack-words.Post μs b y t
    → length a.0.now ≡ length b.0.now → a.1.0 ≡ b.1.0 → a.1.1.0 ≡ b.1.1.0 → a.1.1.1.0.now ≡ b.1.1.1.0.now
    → ((n : ℕ) → n < a.1.1.0 → image_word a.0.now (a.1.0 + n) ≡ image_word b.0.now (a.1.0 + n))
    → ◌≡◌ {A = Result (Unit {0}) OutOfRange × List ℕ} (x, s.1.1.1.0.now) (y, t.1.1.1.0.now)
pack_words_only κs μs a b x y s t p q long first count buffer same =
    as_answers (laws.OnlyTheWords a.0.now b.0.now a.1.0 a.1.1.0 a.1.1.1.0.now long same (is_ok x, s.1.1.1.0.now) (is_ok y, t.1.1.1.0.now)
    p (rw (first, count, buffer) q))

store_bits_only : (κs μs : _) (a b : _) (x y : Result (Unit {0}) OutOfRange) (s t : _) → store-bits.Post κs a x s → store-bits.Post μs b y t
    → a.1.0 ≡ b.1.0 → a.1.1.0 ≡ b.1.1.0 → a.0.now ≡ b.0.now
    → bytes_for_bits a.1.1.0 ≤ length a.1.1.1.0.now → bytes_for_bits a.1.1.0 ≤ length b.1.1.1.0.now
    → ((n : ℕ) → n < a.1.1.0 → packed_bit a.1.1.1.0.now n ≡ packed_bit b.1.1.1.0.now n)
    → ◌≡◌ {A = Result (Unit {0}) OutOfRange × List ℕ} (x, s.0.now) (y, t.0.now)
store_bits_only κs μs a b x y s t p q first count image ea eb same =
    as_answers (laws.SpareBitsIgnored a.1.0 a.1.1.0 a.1.1.1.0.now b.1.1.1.0.now a.0.now ea eb same (is_ok x, s.0.now) (is_ok y, t.0.now)
    p (rw (first, count, image) q))

store_words_only : (κs μs : _) (a b : _) (x y : Result (Unit {0}) OutOfRange) (s t : _) → store_words_lem.Post κs a x s → store_words_lem.Post μs b y t
    → a.1.0 ≡ b.1.0 → a.1.1.0 ≡ b.1.1.0 → a.0.now ≡ b.0.now
    → bytes_for_words a.1.1.0 ≤ length a.1.1.1.0.now → bytes_for_words a.1.1.0 ≤ length b.1.1.1.0.now
    → ((n : ℕ) → n < a.1.1.0 → packed_word a.1.1.1.0.now n ≡ packed_word b.1.1.1.0.now n)
    → ◌≡◌ {A = Result (Unit {0}) OutOfRange × List ℕ} (x, s.0.now) (y, t.0.now)
store_words_only κs μs a b x y s t p q first count image ea eb same =
    as_answers (laws.FurtherBytesIgnored a.1.0 a.1.1.0 a.1.1.1.0.now b.1.1.1.0.now a.0.now ea eb same (is_ok x, s.0.now) (is_ok y, t.0.now)
    p (rw (first, count, image) q))

-- ---- no store changes a bit or a word outside its run, whatever it answers

store_bit_outside : (κs : _) (a : _) (r : Result (Unit {0}) OutOfRange) (s : _) → store-bit.Post κs a r s
    → (k : ℕ) → Outside a.1.0 1 k → image_bit s.0.now k ≡ image_bit a.0.now k
store_bit_outside κs a r s p = laws.BitsOutside _ a.1.0 1 _ a.0.now s.0.now (is_ok r) p

store_bits_outside : (κs : _) (a : _) (r : Result (Unit {0}) OutOfRange) (s : _) → store-bits.Post κs a r s
    → (k : ℕ) → Outside a.1.0 a.1.1.0 k → image_bit s.0.now k ≡ image_bit a.0.now k
store_bits_outside κs a r s p = laws.BitsOutside _ a.1.0 a.1.1.0 _ a.0.now s.0.now (is_ok r) p

store_word_outside : (κs : _) (a : _) (r : Result (Unit {0}) OutOfRange) (s : _) → Store-word.Post κs a r s
    → (k : ℕ) → Outside (a.1.0 * word_bits) (1 * word_bits) k → image_bit s.0.now k ≡ image_bit a.0.now k
store_word_outside κs a r s p = laws.BitsBesideWords _ a.1.0 1 _ a.0.now s.0.now (is_ok r) p

store_words_outside : (κs : _) (a : _) (r : Result (Unit {0}) OutOfRange) (s : _) → store_words_lem.Post κs a r s
    → (k : ℕ) → Outside (a.1.0 * word_bits) (a.1.1.0 * word_bits) k → image_bit s.0.now k ≡ image_bit a.0.now k
store_words_outside κs a r s p = laws.BitsBesideWords _ a.1.0 a.1.1.0 _ a.0.now s.0.now (is_ok r) p

store_bit_beside : (κs : _) (a : _) (r : Result (Unit {0}) OutOfRange) (s : _) → store-bit.Post κs a r s → FitIn word_bits a.0.now
    → (k : ℕ) → ((p : ℕ) → p < word_bits → Outside a.1.0 1 (k * word_bits + p)) → image_word s.0.now k ≡ image_word a.0.now k
store_bit_beside κs a r s p fit = laws.WordsBesideBits _ a.1.0 1 _ a.0.now s.0.now (is_ok r) fit p

store_bits_beside : (κs : _) (a : _) (r : Result (Unit {0}) OutOfRange) (s : _) → store-bits.Post κs a r s → FitIn word_bits a.0.now
    → (k : ℕ) → ((p : ℕ) → p < word_bits → Outside a.1.0 a.1.1.0 (k * word_bits + p))
    → image_word s.0.now k ≡ image_word a.0.now k
store_bits_beside κs a r s p fit = laws.WordsBesideBits _ a.1.0 a.1.1.0 _ a.0.now s.0.now (is_ok r) fit p

store_word_beside : (κs : _) (a : _) (r : Result (Unit {0}) OutOfRange) (s : _) → Store-word.Post κs a r s
    → (k : ℕ) → Outside a.1.0 1 k → image_word s.0.now k ≡ image_word a.0.now k
store_word_beside κs a r s p = laws.WordsOutside _ a.1.0 1 _ a.0.now s.0.now (is_ok r) p

store_words_beside : (κs : _) (a : _) (r : Result (Unit {0}) OutOfRange) (s : _) → store_words_lem.Post κs a r s
    → (k : ℕ) → Outside a.1.0 a.1.1.0 k → image_word s.0.now k ≡ image_word a.0.now k
store_words_beside κs a r s p = laws.WordsOutside _ a.1.0 a.1.1.0 _ a.0.now s.0.now (is_ok r) p
