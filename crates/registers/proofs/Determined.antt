-- What is said bit by bit, or word by word, determines the bytes, the buffer and the image.
-- Assumes nothing.
use mathlib.Core.Path.{◌≡◌, sym, ap₂, ◌∙◌}
use mathlib.Core.Logic.{⊎_elim, inl, inr}
use mathlib.Core.List.{List, ◌++◌}
use Prim.Native.Nat.{ℕ, ◌+◌, ◌*◌, ◌/◌, ◌%◌, ◌<◌}
use native.Mathlib.Omega.{arith}
use lib.ListN.{length, get_or, take, take-append-drop}
use lib.Seq.{ext_get_or}
use Rattle.promise.specs.Promise.{Determined}
use Rattle.registers.specs.Memory.{byte_bits, image_bit, image_word, FitIn}
use Rattle.registers.specs.Packing.{packed_word, BitsPacked, WordsPacked, Filled}
use Rattle.registers.specs.Storing.{BitsStored, WordsStored}
use Rattle.registers.proofs.Places.{lt_or_le, everywhere}
use Rattle.registers.proofs.Numbers.{numbers_ext}

pub bits_packed_determined : (count : ℕ) (run : ℕ → ℕ) → Determined (BitsPacked count run)
bits_packed_determined count run x y p q =
    numbers_ext 8 x y p.bytes_fit q.bytes_fit (p.size ∙ sym q.size)
    (λ n. ⊎_elim (λ l. p.shown n l ∙ sym (q.shown n l)) (λ l. p.spare n l ∙ sym (q.spare n l)) (lt_or_le n count))

-- two bytes are what the word is that they show
two_bytes : (x y : List ℕ) (n : ℕ) → FitIn byte_bits x → FitIn byte_bits y → packed_word x n ≡ packed_word y n
    → (get_or x (2 * n) 0 ≡ get_or y (2 * n) 0) × (get_or x (2 * n + 1) 0 ≡ get_or y (2 * n + 1) 0)
two_bytes x y n fx fy e =
    omega (arith, fx (2 * n), fx (2 * n + 1), fy (2 * n), fy (2 * n + 1))

pub bytes_of_words : (count : ℕ) (x y : List ℕ) → length x ≡ 2 * count → length y ≡ 2 * count → FitIn byte_bits x → FitIn byte_bits y
    → ((n : ℕ) → n < count → packed_word x n ≡ packed_word y n) → x ≡ y
bytes_of_words count x y lx ly fx fy same =
    ext_get_or 0 x y (lx ∙ sym ly)
    (λ i h. let n = i / 2 in
    let both = two_bytes x y n fx fy (same n (omega arith)) in
    elim (lt_or_le (i % 2) 1) [
      | inl l ↦ let e : i ≡ 2 * n = omega arith in rw e both.0
      | inr l ↦ let e : i ≡ 2 * n + 1 = omega arith in rw e both.1
    ])

pub words_packed_determined : (count : ℕ) (run : ℕ → ℕ) → Determined (WordsPacked count run)
words_packed_determined count run x y p q =
    bytes_of_words count x y p.size q.size p.bytes_fit q.bytes_fit (λ n h. p.shown n h ∙ sym (q.shown n h))

pub filled_determined : (n : ℕ) (Shown : List ℕ → Type 0) (before : List ℕ) → Determined Shown → Determined (Filled n Shown before)
filled_determined n Shown before one x y p q =
    sym (take-append-drop n x)
    ∙ ap₂ (λ (front rest : List ℕ). front ++ rest) (one (take n x) (take n y) p.front q.front) (p.rest ∙ sym q.rest)
    ∙ take-append-drop n y

-- ---- images

pub bits_stored_determined : (first count : ℕ) (run : ℕ → ℕ) (before : List ℕ) → Determined (BitsStored first count run before)
bits_stored_determined first count run before x y p q =
    numbers_ext 16 x y p.words_fit q.words_fit (p.as_long ∙ sym q.as_long)
    (everywhere first count (λ k. image_bit x k ≡ image_bit y k) (λ n h. p.stored n h ∙ sym (q.stored n h)) (λ k out. p.kept k out ∙ sym (q.kept k out)))

pub words_stored_determined : (first count : ℕ) (run : ℕ → ℕ) (before : List ℕ) → Determined (WordsStored first count run before)
words_stored_determined first count run before x y p q =
    ext_get_or 0 x y (p.as_long ∙ sym q.as_long)
    (λ k h. everywhere first count (λ k. image_word x k ≡ image_word y k) (λ n h. p.stored n h ∙ sym (q.stored n h)) (λ k out. p.kept k out ∙ sym (q.kept k out)) k)
