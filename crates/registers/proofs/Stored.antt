-- Images in which a run was stored: runs of bits one behind the other, bits stored into one word, and words one by one.
-- Assumes nothing.
use mathlib.Core.Path.{◌≡◌, refl, sym, ap, ◌∙◌, subst}
use mathlib.Core.Logic.{◌≢◌, inl, inr, ⊎_elim}
use mathlib.Core.List.{List}
use Prim.Native.Nat.{ℕ, ◌+◌, ◌-◌, ◌*◌, ◌%◌, ◌^◌, ◌≤◌, ◌<◌}
use native.Mathlib.Nat.{zero-add}
use native.Mathlib.Omega.{arith}
use lib.ListN.{length, get_or, set, length-set}
use lib.Seq.{get_or-set_same, get_or-set_other}
use Rattle.registers.specs.Memory.{word_bits, bit, image_word, image_bit, FitIn, from}
use Rattle.registers.specs.Storing.{Outside, BitsStored, WordsStored}
use Rattle.registers.specs.Pieces.{Shows}
use Rattle.registers.proofs.Places.{lt_or_le}
use Rattle.registers.proofs.Bit.{bit_past}
use Rattle.registers.proofs.Numbers.{bit_at-set_same, bit_at-set_kept, numbers_set}

-- ---- bits

-- a run of no bits
pub stored_none : (first : ℕ) (run : ℕ → ℕ) (image : List ℕ) → FitIn word_bits image → BitsStored first 0 run image image
stored_none first run image fit =
    record { as_long = refl; words_fit = fit; stored = λ n h. absurd (omega arith); kept = λ k out. refl }

-- another run with the same bits
pub stored_run : {first count : ℕ} {f g : ℕ → ℕ} {x y : List ℕ} → BitsStored first count f x y
    → ((n : ℕ) → n < count → f n ≡ g n) → BitsStored first count g x y
stored_run s same =
    record { as_long = s.as_long; words_fit = s.words_fit; stored = λ n h. s.stored n h ∙ same n h; kept = s.kept }

-- one run stored, and then the next: that is both
pub stored_join : {first a b : ℕ} {run : ℕ → ℕ} {x y z : List ℕ} → BitsStored first a run x y
    → BitsStored (first + a) b (from a run) y z → BitsStored first (a + b) run x z
stored_join {first} {a} {b} {run} {x} {y} {z} s t =
    record {
      as_long = t.as_long ∙ s.as_long;
      words_fit = t.words_fit;
      stored = λ n h.
          elim (lt_or_le n a) [
            | inl l ↦ t.kept (first + n) (inl (omega arith)) ∙ s.stored n l
            | inr l ↦ let e : a + (n - a) ≡ n = omega arith in
                let at : first + n ≡ first + a + (n - a) = omega arith in
                ap (image_bit z) at ∙ t.stored (n - a) (omega arith) ∙ ap run e
          ];
      kept = λ k out.
          elim out [
            | inl l ↦ t.kept k (inl (omega arith)) ∙ s.kept k (inl l)
            | inr l ↦ t.kept k (inr (omega arith)) ∙ s.kept k (inr (omega arith))
          ];
    }

-- bits of a number that shows the run
pub stored_shown : {first width w : ℕ} {run : ℕ → ℕ} {bits : ℕ} {x y : List ℕ} → width ≤ w → Shows w run bits
    → BitsStored first width (bit bits) x y → BitsStored first width run x y
stored_shown h shows s = stored_run s (λ n below. shows.shown n (omega arith))

-- whole words of a run, and then the next bits, up to sixteen
pub stored_more : (word i width bits : ℕ) (run : ℕ → ℕ) (x y z : List ℕ) → width ≤ word_bits
    → BitsStored (word * word_bits) (i * word_bits) run x y → Shows word_bits (from (i * word_bits) run) bits
    → BitsStored ((word + i) * word_bits + 0) width (bit bits) y z → BitsStored (word * word_bits) (i * word_bits + width) run x z
stored_more word i width bits run x y z h done shows s =
    let at : (word + i) * 16 + 0 ≡ word * 16 + i * 16 = omega arith in
    stored_join done (stored_shown h shows (rw at at s))

-- `width` bits from `place` on of one word
pub stored_in_word : (image : List ℕ) (word place width v : ℕ) (run : ℕ → ℕ) → word < length image → place + width ≤ word_bits
    → FitIn word_bits image → v < 2 ^ word_bits
    → ((n : ℕ) → n < width → bit v (place + n) ≡ run n)
    → ((p : ℕ) → Outside place width p → bit v p ≡ bit (get_or image word 0) p)
    → BitsStored (word * word_bits + place) width run image (set image word v)
stored_in_word image word place width v run inside fits fit small new old =
    record {
      as_long = length-set image word v;
      words_fit = numbers_set word_bits image word v fit small;
      stored = λ n h.
          let k : ℕ = word * 16 + place + n in
          bit_at-set_same 16 image word v k inside (omega arith)
          ∙ ap (bit v) (omega arith) ∙ new n h;
      kept = λ k out.
          bit_at-set_kept 16 image word v k inside
          (λ e. old (k % 16) (⊎_elim (λ l. inl (omega arith)) (λ l. inr (omega arith)) out));
    }

-- all the bits of one word
pub stored_word : (image : List ℕ) (word v : ℕ) → word < length image → FitIn word_bits image → v < 2 ^ word_bits
    → BitsStored (word * word_bits + 0) word_bits (bit v) image (set image word v)
stored_word image word v inside fit small =
    stored_in_word image word 0 16 v (bit v) inside (omega arith) fit small (λ n h. ap (bit v) (zero-add n))
    (λ p out.
    elim out [
      | inl l ↦ absurd (omega arith)
      | inr l ↦ bit_past 16 v p small (omega arith) ∙ sym (bit_past 16 (get_or image word 0) p (fit word) (omega arith))
    ])

-- whole words of a run, and then the next word of it
pub stored_next : (word i v : ℕ) (run : ℕ → ℕ) (x y : List ℕ) → word + i < length x
    → BitsStored (word * word_bits) (i * word_bits) run x y → Shows word_bits (from (i * word_bits) run) v
    → BitsStored (word * word_bits) ((i + 1) * word_bits) run x (set y (word + i) v)
stored_next word i v run x y inside done shows =
    let more : i * 16 + 16 ≡ (i + 1) * 16 = omega arith in
    subst (λ (m : ℕ). BitsStored (word * 16) m run x (set y (word + i) v)) more
    (stored_more word i 16 v run x y (set y (word + i) v) (omega arith) done shows
    (stored_word y (word + i) v (omega (arith, done.as_long)) done.words_fit shows.small))

-- ---- words

pub words_stored_none : (first : ℕ) (run : ℕ → ℕ) (image : List ℕ) → WordsStored first 0 run image image
words_stored_none first run image = record { as_long = refl; stored = λ n h. absurd (omega arith); kept = λ k out. refl }

pub words_stored_run : {first count : ℕ} {f g : ℕ → ℕ} {x y : List ℕ} → WordsStored first count f x y
    → ((n : ℕ) → n < count → f n ≡ g n) → WordsStored first count g x y
words_stored_run s same =
    record { as_long = s.as_long; stored = λ n h. s.stored n h ∙ same n h; kept = s.kept }

pub words_stored_next : (first i : ℕ) (run : ℕ → ℕ) (x y : List ℕ) → WordsStored first i run x y → first + i < length x
    → WordsStored first (i + 1) run x (set y (first + i) (run i))
words_stored_next first i run x y s inside =
    let other : (k : ℕ) → k ≢ first + i → image_word (set y (first + i) (run i)) k ≡ image_word y k =
    λ k ne. get_or-set_other y (first + i) k (run i) 0 ne in
    record {
      as_long = length-set y (first + i) (run i) ∙ s.as_long;
      stored = λ n h.
          elim (lt_or_le n i) [
            | inl l ↦ other (first + n) (λ e. omega arith) ∙ s.stored n l
            | inr l ↦ let e : i ≡ n = omega arith in
                subst (λ (m : ℕ). image_word (set y (first + i) (run i)) (first + m) ≡ run m) e
                (get_or-set_same y (first + i) (run i) 0 (omega arith))
          ];
      kept = λ k out.
          elim out [
            | inl l ↦ other k (λ e. omega arith) ∙ s.kept k (inl l)
            | inr l ↦ other k (λ e. omega arith) ∙ s.kept k (inr (omega arith))
          ];
    }
