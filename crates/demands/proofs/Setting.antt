-- To store a run in an image is to set exactly its bits or words.
-- Assumes nothing.
use mathlib.Core.Path.{◌≡◌, refl, ap}
use mathlib.Core.Logic.{inl, inr, ⊎_elim}
use mathlib.Core.List.{List}
use Prim.Native.Nat.{ℕ, ◌+◌, ◌*◌, ◌/◌, ◌%◌}
use native.Mathlib.Decide.{dec_le}
use native.Mathlib.Omega.{arith}
use Rattle.registers.specs.Memory.{word_bits, bit, bit_among, image_word, FitIn}
use Rattle.registers.specs.Storing.{Outside, BitsStored, WordsStored}
use Rattle.registers.proofs.Bit.{bit_ext}
use Rattle.areas.specs.Holding.{Among}
use Rattle.frames.specs.declared.Width.{Width}
use Rattle.frames.specs.declared.Width.TheVariants.{Bit, Word}
use Rattle.slave.specs.Answer.{StoredOne, StoredRun}
use Rattle.slave.proofs.Stable.{still_at_most}
use Rattle.demands.specs.Terms.{SetsExactly, one_datum, run_data}

-- what is not in a run lies before or behind it
not_among : (first count k : ℕ) → (Among first count k → ⊥) → Outside first count k
not_among first count k out =
    elim (dec_le first k) [ yes h ↦ inr (still_at_most (first + count) k (λ few. out (h, omega arith))) | no h ↦ inl (omega arith) ]

abbrev Stored : Width → ℕ → ℕ → (ℕ → ℕ) → List ℕ → List ℕ → Type 0
Stored Bit = BitsStored
Stored Word = WordsStored

-- what an accepted write stores, of one and of a run
pub stored_one : (width : Width) (first value : ℕ) → StoredOne width first value ≡ Stored width first 1 (one_datum width value)
stored_one Bit first value = refl
stored_one Word first value = refl

pub stored_run : (width : Width) (first count : ℕ) (bytes : List ℕ)
    → StoredRun width first count bytes ≡ Stored width first count (run_data width bytes)
stored_run Bit first count bytes = refl
stored_run Word first count bytes = refl

pub sets_exactly : (width : Width) (first count : ℕ) (run : ℕ → ℕ) (before after : List ℕ)
    → Stored width first count run before after → SetsExactly width first count run before after
unfolding bit_among
sets_exactly Bit first count run before after s = record {
  as_long = s.as_long;
  sets = s.stored;
  no_other = λ k out. s.kept k (not_among first count k out);
}
sets_exactly Word first count run before after s = record {
  as_long = s.as_long;
  sets = s.stored;
  no_other = λ k out.
      ap (λ (word : ℕ). bit word (k % word_bits)) (s.kept (k / word_bits) (not_among first count (k / word_bits) out));
}

-- ---- and back

not_outside : (first count k : ℕ) → Outside first count k → Among first count k → ⊥
not_outside first count k out among = ⊎_elim (λ before. omega arith) (λ behind. omega arith) out

pub stored_exactly : (width : Width) (first count : ℕ) (run : ℕ → ℕ) (before after : List ℕ) → FitIn word_bits before
    → FitIn word_bits after → SetsExactly width first count run before after → Stored width first count run before after
unfolding bit_among
stored_exactly Bit first count run before after fit-before fit-after s = record {
  as_long = s.as_long;
  words_fit = fit-after;
  stored = s.sets;
  kept = λ k out. s.no_other k (not_outside first count k out);
}
stored_exactly Word first count run before after fit-before fit-after s = record {
  as_long = s.as_long;
  stored = s.sets;
  kept = λ k out. bit_ext 16 (image_word after k) (image_word before k) (fit-after k) (fit-before k)
      (λ p h.
      let word : (k * 16 + p) / 16 ≡ k = omega arith in
      let place : (k * 16 + p) % 16 ≡ p = omega arith in
      rw (word, place) at (s.no_other (k * 16 + p) (λ among. not_outside first count k out (rw word at among))));
}
