-- Words and their bits: runs of words stored and packed, against the runs of their bits.
-- Assumes nothing.
use mathlib.Core.Path.{◌≡◌, sym, ap, ap₂, ◌∙◌}
use mathlib.Core.Logic.{inl, inr, ⊎_elim}
use mathlib.Core.List.{List}
use Prim.Native.Nat.{ℕ, ◌+◌, ◌*◌, ◌/◌, ◌%◌, ◌^◌, ◌<◌}
use native.Mathlib.Omega.{arith}
use lib.ListN.{get_or}
use Rattle.registers.specs.Memory.{word_bits, bit, bit_among, FitIn, image_word, image_bit, from}
use Rattle.registers.specs.Packing.{packed_bit, BitsPacked, WordsPacked}
use Rattle.registers.specs.Storing.{Outside, BitsStored, WordsStored}
use Rattle.registers.proofs.Places.{everywhere}
use Rattle.registers.proofs.Bit.{bit_under, bit_over, bit_ext}
use Rattle.registers.proofs.Numbers.{bit_at-number}

-- a word that has the same bits as a number is that number
word_by_bits : (image : List ℕ) (k n : ℕ) → image_word image k < 2 ^ word_bits → n < 2 ^ word_bits
    → ((p : ℕ) → p < word_bits → image_bit image (k * word_bits + p) ≡ bit n p) → image_word image k ≡ n
word_by_bits image k n fit small same =
    bit_ext 16 (image_word image k) n fit small (λ p h. sym (bit_at-number 16 image k p h) ∙ same p h)

-- ---- stored

pub words_beside_bits : (first count : ℕ) (run : ℕ → ℕ) (x y : List ℕ) → FitIn word_bits x → BitsStored first count run x y
    → (k : ℕ) → ((p : ℕ) → p < word_bits → Outside first count (k * word_bits + p)) → image_word y k ≡ image_word x k
words_beside_bits first count run x y fit s k out =
    word_by_bits y k (image_word x k) (s.words_fit k) (fit k) (λ p h. s.kept (k * 16 + p) (out p h) ∙ bit_at-number 16 x k p h)

pub bits_beside_words : (first count : ℕ) (run : ℕ → ℕ) (x y : List ℕ) → WordsStored first count run x y
    → (k : ℕ) → Outside (first * word_bits) (count * word_bits) k → image_bit y k ≡ image_bit x k
unfolding bit_among
bits_beside_words first count run x y s k out =
    ap (λ (w : ℕ). bit w (k % 16)) (s.kept (k / 16) (⊎_elim (λ l. inl (omega arith)) (λ l. inr (omega arith)) out))

module _ (first count : ℕ) (run : ℕ → ℕ) (x y : List ℕ) (fit : FitIn word_bits x) (small : (n : ℕ) → n < count → run n < 2 ^ word_bits) where
  words_fit_after : WordsStored first count run x y → FitIn word_bits y
  words_fit_after s =
      everywhere first count (λ k. image_word y k < 2 ^ 16) (λ n h. rw (s.stored n h) (small n h)) (λ k out. rw (s.kept k out) (fit k))

  pub words_as_bits : WordsStored first count run x y → BitsStored (first * word_bits) (count * word_bits) (bit_among word_bits run) x y
  unfolding bit_among
  words_as_bits s =
      record {
        as_long = s.as_long;
        words_fit = words_fit_after s;
        stored = λ n h.
            let word : (first * 16 + n) / 16 ≡ first + n / 16 = omega arith in
            let place : (first * 16 + n) % 16 ≡ n % 16 = omega arith in
            ap₂ (λ (i p : ℕ). bit (image_word y i) p) word place ∙ ap (λ (w : ℕ). bit w (n % 16)) (s.stored (n / 16) (omega arith));
        kept = bits_beside_words first count run x y s;
      }

  pub bits_as_words : BitsStored (first * word_bits) (count * word_bits) (bit_among word_bits run) x y → WordsStored first count run x y
  unfolding bit_among
  bits_as_words s =
      record {
        as_long = s.as_long;
        stored = λ n h.
            word_by_bits y (first + n) (run n) (s.words_fit (first + n)) (small n h)
            (λ p l.
            let at : (first + n) * 16 + p ≡ first * 16 + (n * 16 + p) = omega arith in
            let word : (n * 16 + p) / 16 ≡ n = omega arith in
            let place : (n * 16 + p) % 16 ≡ p = omega arith in
            ap (image_bit y) at ∙ s.stored (n * 16 + p) (omega arith) ∙ ap₂ (λ (i q : ℕ). bit (run i) q) word place);
        kept = λ k out.
            words_beside_bits (first * 16) (count * 16) (bit_among 16 run) x y fit s k
            (λ p l. ⊎_elim (λ m. inl (omega arith)) (λ m. inr (omega arith)) out);
      }

-- ---- packed

module _ (image : List ℕ) (first count : ℕ) (words bits : List ℕ)
    (ws : WordsPacked count (from first (image_word image)) words)
    (bs : BitsPacked (count * word_bits) (from (first * word_bits) (image_bit image)) bits) (n : ℕ) (h : n < count) where
  -- bit q of the word, out of the packed bits
  bit_packed : (j p q : ℕ) → p < 8 → j * 8 + p ≡ n * 16 + q → q < 16 → bit (get_or bits j 0) p ≡ bit (image_word image (first + n)) q
  bit_packed j p q l e m =
      let at : first * 16 + (n * 16 + q) ≡ (first + n) * 16 + q = omega arith in
      sym (bit_at-number 8 bits j p l) ∙ ap (packed_bit bits) e ∙ bs.shown (n * 16 + q) (omega arith) ∙ ap (image_bit image) at
      ∙ bit_at-number 16 image (first + n) q m

  abbrev high : ℕ
  high = get_or words (2 * n) 0

  abbrev low : ℕ
  low = get_or words (2 * n + 1) 0

  pub bytes_swapped : (get_or bits (2 * n) 0 ≡ get_or words (2 * n + 1) 0) × (get_or bits (2 * n + 1) 0 ≡ get_or words (2 * n) 0)
  bytes_swapped = (
    bit_ext 8 (get_or bits (2 * n) 0) low (bs.bytes_fit (2 * n)) (ws.bytes_fit (2 * n + 1))
        (λ p l. bit_packed (2 * n) p p l (omega arith) (omega arith) ∙ ap (λ (w : ℕ). bit w p) (sym (ws.shown n h))
        ∙ bit_under 8 high low p (ws.bytes_fit (2 * n + 1)) l),
    bit_ext 8 (get_or bits (2 * n + 1) 0) high (bs.bytes_fit (2 * n + 1)) (ws.bytes_fit (2 * n))
        (λ p l. bit_packed (2 * n + 1) p (8 + p) l (omega arith) (omega arith) ∙ ap (λ (w : ℕ). bit w (8 + p)) (sym (ws.shown n h))
        ∙ bit_over 8 high low p (ws.bytes_fit (2 * n + 1))),
  )
