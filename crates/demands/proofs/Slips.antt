-- Each slip of specs/Slips.antt dies on its demand.
-- Assumes nothing.
use mathlib.Core.Path.{◌≡◌, refl, sym, ap, ◌∙◌}
use mathlib.Core.Bool.{xor}
use mathlib.Core.Logic.{inr}
use mathlib.Core.List.{List, [], ◌∷◌}
use Prim.Native.Nat.{ℕ, zero, suc, ◌/◌, ◌%◌, ◌<◌}
use native.Mathlib.Omega.{arith}
use lib.Arith.{lt-one}
use lib.ListN.{set}
use Rattle.check_word.specs.CheckWord.{corrected, step, steps, add_byte, add_bytes, check_word}
use Rattle.check_word.specs.Line.{bits, line_bits, differences, ones_at, odd}
use Rattle.registers.specs.Memory.{bit, bit_among, image_word, from}
use Rattle.registers.specs.Packing.{packed_bit, packed_word}
use Rattle.registers.proofs.Packed.{packed_byte}
use Rattle.registers.proofs.Stored.{words_stored_none, words_stored_next}
use Rattle.registers.proofs.Merge.{merged}
use Rattle.areas.specs.Holding.{Holds, area_at}
use Rattle.areas.proofs.Witnesses as areas-of
use Rattle.frames.specs.declared.Width.TheVariants.{Bit}
use Rattle.frames.specs.declared.Code.TheVariants.{Address, ReadOnly}
use Rattle.frames.specs.Fields.{number, data_field}
use Rattle.frames.specs.Functions.{function_of}
use Rattle.slave.specs.declared.Silence.TheVariants.{AnotherStation}
use Rattle.slave.specs.declared.Outcome.TheVariants.{Silent, Exception, Reply}
use Rattle.slave.specs.Numbers.{Kind, refused, silence, exception, accepted, kind_of}
use Rattle.slave.specs.Examples.{areas}
use Rattle.slave.specs.Answer.{over}
use Rattle.slave.proofs.Cases.{kind_place, apart}
use Rattle.demands.specs.Terms.{lines_of, FirstToApply, behind_the_table, lines_before_e2}
use Rattle.demands.specs.Bench.{words, image, read_7_and_8, write_7_and_8, read_bit_21, write_three_bits, read_3_to_6, damaged_to_another}
use Rattle.demands.specs.Slips as slips
use Rattle.demands.proofs.FirstLine.{no_other}
use Rattle.demands.proofs.Left.{is_reply}
use Rattle.demands.proofs.Image.{bits_of_word_1}
use Rattle.demands.proofs.Witnesses.{Witnesses, damaged, two_words_of}
use Rattle.demands.proofs.Duds.{unchanged}

-- ---- an exception leaves the image: word 7 holds 0 still, and not 1

pub StoringWhileCheckingDies : slips.StoringWhileCheckingDies
unfolding number
StoringWhileCheckingDies =
    let run = packed_word (data_field write_7_and_8.frame) in
    record {
      answers = (
        record { outcome = Exception ReadOnly; image = set image 7 1; reply = write_7_and_8.reply },
        ((ReadOnly, refl), words_stored_next 7 0 run image image (words_stored_none 7 run image) (omega arith)),
      );
      breaks = λ answer ((code, excepts), stored) law.
          let kept = (law.excepted write_7_and_8 answer (refl, refl) code excepts).0 in
          let word : ◌≡◌ {A = ℕ} 0 1 = ap (λ (xs : List ℕ). image_word xs 7) (sym kept) ∙ stored.stored 0 (omega arith) in
          omega arith;
    }

-- ---- what is accepted, no line applies to; but line E2 does: word 4 is in no area

pub TestingFirstAndLastDies : slips.TestingFirstAndLastDies
unfolding number function_of
TestingFirstAndLastDies = record {
  answers = (unchanged (Reply 0) read_3_to_6, λ first last. (0, refl));
  breaks = λ answer tests law.
      let (first, last, hole) = areas-of.holed_3_to_6 in
      let accepts = (tests first last).1 in
      (law.no_other read_3_to_6 answer (refl, refl) behind_the_table (omega arith) (ap kind_of accepts)).1
      lines_before_e2 (omega arith) (inr hole);
}

-- ---- bit 21 is bit 5 of word 1, a 1, and not bit 10, a 0

pub CountingFromTheHighEndDies : slips.CountingFromTheHighEndDies
unfolding number function_of bit bit_among
CountingFromTheHighEndDies =
    let run = from 21 (slips.bit_from_the_high_end image) in
    record {
      answers = (
        record { outcome = Reply 6; image = image; reply = over (0x14 ∷ 0x01 ∷ 0x01 ∷ 0x00 ∷ []) read_bit_21.reply },
        (
          6,
          refl,
          packed_byte 1 run 0 (omega arith) (omega arith) (record { small = omega arith; shown = λ p h. rw (lt-one h) refl }),
        ),
      );
      breaks = λ answer (n, is, shown) law.
          let right = (law read_bit_21 answer (refl, refl) n is Bit refl).0.shown 0 (omega arith) in
          let same : ◌≡◌ {A = ℕ} 1 0 = sym right ∙ shown.shown 0 (omega arith) in
          omega arith;
    }

-- ---- words 7 and 8 are each in an area, though not in one: no line applies

no_one_area : (i : ℕ) → i < 2 → Holds (area_at areas i) 7 → Holds (area_at areas i) 8 → ⊥
no_one_area zero h first last = omega (arith, last.1)
no_one_area (suc zero) h first last = omega (arith, first.0)
no_one_area (suc (suc i)) h first last = omega arith

across : FirstToApply (lines_of read_7_and_8) behind_the_table
across = no_other read_7_and_8 accepted behind_the_table Witnesses.words_7_and_8_read.decided (omega arith) refl

pub AskingForOneAreaDies : slips.AskingForOneAreaDies
unfolding number
AskingForOneAreaDies = record {
  answers = (unchanged (Exception Address) read_7_and_8, λ none n e. apart kind_place (ap kind_of e) refl (omega arith));
  breaks = λ answer asks law.
      let (n, is) = is_reply answer.outcome (law.decides read_7_and_8 answer (refl, refl) behind_the_table across) in
      asks (λ (i, h, both). no_one_area i h both.0 both.1) n is;
}

-- ---- bit 27 was 0, and is not addressed

byte_bit : (n : ℕ) → n < 8 → bit 0xfc n ≡ packed_bit (0xfc ∷ []) n
unfolding bit_among
byte_bit n h =
    let first : n / 8 ≡ 0 = omega arith in
    let place : n % 8 ≡ n = omega arith in
    rw (first, place) refl

pub WritingWholeBytesDies : slips.WritingWholeBytesDies
unfolding number function_of bit bit_among
WritingWholeBytesDies = record {
  answers = (
    record { outcome = Reply 8; image = words (merged 8 8 0xfc 1000) 500; reply = write_three_bits.reply },
    (8, refl, bits_of_word_1 8 0xfc (packed_bit (0xfc ∷ [])) (omega arith) byte_bit),
  );
  breaks = λ answer (n, is, stored) law.
      let kept = (law.run write_three_bits answer (refl, refl) n is Bit refl).0.no_other 27 (λ among. omega (arith, among.1)) in
      let same : ◌≡◌ {A = ℕ} 1 0 = sym (stored.stored 3 (omega arith)) ∙ kept in
      omega arith;
}

-- ---- a damaged frame is met with silence 11

abbrev number_of : Kind → ℕ
number_of (refused n) = n
number_of (silence n) = n
number_of (exception n) = n
number_of accepted = 0

pub AddressFirstDies : slips.AddressFirstDies
unfolding check_word add_bytes add_byte steps step corrected xor bits line_bits differences ones_at
AddressFirstDies = record {
  answers = (unchanged (Silent AnotherStation) damaged_to_another, λ other. (refl, (refl, refl)));
  breaks = λ answer looks law.
      let flipped = damaged (two_words_of 21) damaged_to_another.frame (omega arith) (omega arith) refl refl refl (odd refl) in
      let tells = ap kind_of (looks (λ e. omega arith)).0 in
      let told = law damaged_to_another answer (refl, refl) _ flipped
      (λ why refuses. apart kind_place tells (ap kind_of refuses) (omega arith)) in
      apart number_of tells told.0 (omega arith);
}
