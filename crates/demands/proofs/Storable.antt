-- Each run of bits, and each run of words, that lies inside an image can be stored in it.
-- Assumes nothing.
use mathlib.Core.Path.{◌≡◌, ◌∙◌}
use mathlib.Core.List.{List}
use Prim.Native.Nat.{ℕ, zero, suc, ◌+◌, ◌*◌, ◌/◌, ◌%◌, ◌<◌}
use native.Mathlib.Omega.{arith}
use lib.ListN.{set}
use Rattle.registers.specs.Memory.{word_bits, image_word, from, FitIn, BitsInside, WordsInside}
use Rattle.registers.specs.Storing.{BitsStored, WordsStored}
use Rattle.registers.proofs.Merge.{merged, merged_small, merged_new, merged_old}
use Rattle.registers.proofs.Stored.{stored_none, stored_join, stored_in_word, words_stored_none, words_stored_next}
use Rattle.demands.proofs.Packable.{Bits, lowest_bit}

-- ---- bits

bit_storable : (k : ℕ) (run : ℕ → ℕ) (image : List ℕ) → run 0 < 2 → FitIn word_bits image → BitsInside image k 1
    → (after : List ℕ) × BitsStored k 1 run image after
bit_storable k run image small fit inside =
    let word = k / 16 in
    let place = k % 16 in
    let old = image_word image word in
    let new = merged place 1 (run 0) old in
    let e : word * 16 + place ≡ k = omega arith in (
      set image word new,
      rw e at (stored_in_word image word place 1 new run (omega arith) (omega arith) fit
          (merged_small place 1 (run 0) old 16 (omega arith) (fit word))
          (λ n h. let e : n ≡ 0 = omega arith in rw e (merged_new place 1 (run 0) old 0 (omega arith) ∙ lowest_bit (run 0) small))
          (merged_old place 1 (run 0) old)),
    )

pub bits_storable : (first count : ℕ) (run : ℕ → ℕ) (image : List ℕ) → Bits run → FitIn word_bits image
    → BitsInside image first count → (after : List ℕ) × BitsStored first count run image after
bits_storable first zero run image bits fit inside = (image, stored_none first run image fit)
bits_storable first (suc n) run image bits fit inside =
    let (mid, stored) = bits_storable first n run image bits fit (omega arith) in
    let room : BitsInside mid (first + n) 1 = omega (arith, stored.as_long) in
    let (after, last) = bit_storable (first + n) (from n run) mid (bits (n + 0)) stored.words_fit room in
    let e : n + 1 ≡ suc n = omega arith in
    (after, rw e at (stored_join stored last))

-- ---- words

pub words_storable : (first count : ℕ) (run : ℕ → ℕ) (image : List ℕ) → WordsInside image first count
    → (after : List ℕ) × WordsStored first count run image after
words_storable first zero run image inside = (image, words_stored_none first run image)
words_storable first (suc n) run image inside =
    let (mid, stored) = words_storable first n run image (omega arith) in
    let e : n + 1 ≡ suc n = omega arith in
    (set mid (first + n) (run n), rw e at (words_stored_next first n run image mid stored (omega arith)))
