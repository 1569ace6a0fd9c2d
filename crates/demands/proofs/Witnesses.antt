-- The calls of specs/Witnesses.antt, worked out.
-- Assumes nothing.
use mathlib.Core.Path.{◌≡◌, refl, sym, subst}
use mathlib.Core.Logic.{inl, inr}
use mathlib.Core.Bool.{true, xor}
use mathlib.Core.List.{List, [], ◌∷◌}
use Prim.Native.Nat.{ℕ, ◌≤◌}
use native.Mathlib.Omega.{arith}
use lib.ListN.{length, replicate}
use lib.Pow.{are_bytes}
use Rattle.check_word.specs.CheckWord.{corrected, step, steps, add_byte, add_bytes, check_word}
use Rattle.check_word.specs.Frame.{framed}
use Rattle.check_word.specs.Line.{bits, line_bits, differences, ones_at, differ_at, window, Shown, two, odd, burst, InsideWindow, Damaged}
use Rattle.check_word.proofs.Witnesses.{bytes_by}
use Rattle.check_word.proofs.Laws as check-word
use Rattle.areas.specs.declared.Verdict.TheVariants.{SomeInNoArea, SomeReadOnly}
use Rattle.areas.proofs.Witnesses as areas-of
use Rattle.frames.specs.declared.Act.TheVariants.{Read, WriteOne, WriteRun}
use Rattle.frames.specs.declared.Width.TheVariants.{Bit, Word}
use Rattle.std.specs.Prelude.{Some}
use Rattle.frames.specs.declared.Code.TheVariants as Code
use Rattle.frames.specs.Fields.{number}
use Rattle.frames.specs.Functions.{function_of}
use Rattle.frames.specs.Exceptions.{top_bit_set}
use Rattle.slave.specs.declared.Counting.{Counting}
use Rattle.slave.specs.declared.Counting.TheVariants.{ModBus, JBus}
use Rattle.slave.specs.declared.State.TheVariants.{Ready, NotReady, AtTheKeyboard}
use Rattle.slave.specs.declared.Refusal.TheVariants as Refusal
use Rattle.slave.specs.declared.Silence.TheVariants as Silence
use Rattle.slave.specs.declared.Outcome.TheVariants.{Silent}
use Rattle.slave.specs.Conditions.{AddressedBy}
use Rattle.slave.specs.Deciding.{JudgedBy}
use Rattle.slave.specs.Examples.{areas}
use Rattle.slave.specs.Answer.{Answers}
use Rattle.slave.proofs.Cases.{state_place, apart}
use Rattle.slave.proofs.Reply.{framed_length}
use Rattle.demands.specs.Terms.{with_image, request}
use Rattle.demands.specs.Bench.{words, image, bench, Told, Replied, two_words, read_three_bits}
use Rattle.demands.specs.Witnesses as W
use Rattle.demands.proofs.UpFrom.{up_from, number_up}
use Rattle.demands.proofs.Demands.{EveryCall, ReadShows, DependsOnNothingElse}
use Rattle.demands.proofs.Bench.{told_refused, told_silent, excepted, own_set, image_sized, areas_kept, past_settings, past_length, past_check_word, past_address, past_state, past_function, past_request_length, past_quantity, past_limits, start_for, by_judging, replied_if, replied, read}
use Rattle.demands.proofs.Image.{bits_24_to_26, bits_24_to_26_agree, words_fit, words_1_and_2, words_7_and_8, bit_24_off, bits_24_to_26_set, word_1_set, words_1_and_2_set}

-- ---- the eight functions; 01 and 02 act alike, and so do 03 and 04

module _ (counting : Counting) where
  bits_read : (function : ℕ) → function_of function ≡ Some (Read, Bit)
      → Replied (bench counting Ready (request 20 function (start_for counting 24) (0x00 ∷ 0x03 ∷ [])))
      (framed (20 ∷ function ∷ 0x01 ∷ 0x03 ∷ [])) image
  bits_read function found =
      read counting Bit function 24 0x00 0x03 (0x03 ∷ []) found (omega arith) (omega arith) (omega arith) bits_24_to_26

  words_read : (function : ℕ) → function_of function ≡ Some (Read, Word)
      → Replied (bench counting Ready (request 20 function (start_for counting 1) (0x00 ∷ 0x02 ∷ [])))
      (framed (20 ∷ function ∷ 0x04 ∷ 0x03 ∷ 0xe8 ∷ 0x01 ∷ 0xf4 ∷ [])) image
  words_read function found =
      read counting Word function 1 0x00 0x02 (0x03 ∷ 0xe8 ∷ 0x01 ∷ 0xf4 ∷ []) found (omega arith) (omega arith) (omega arith)
      words_1_and_2

  abbrev bit_write : List ℕ
  bit_write = request 20 0x05 (start_for counting 24) (0x00 ∷ 0x00 ∷ [])

  bit_written : Replied (bench counting Ready bit_write) bit_write (words 744 500)
  unfolding number function_of
  bit_written =
      replied counting WriteOne Bit 0x05 24 (0x00 ∷ 0x00 ∷ []) refl (omega arith) refl (omega arith) (omega arith) (inr refl)
      (omega arith) _ _ refl bit_24_off

  abbrev word_write : List ℕ
  word_write = request 20 0x06 (start_for counting 1) (0x12 ∷ 0x34 ∷ [])

  word_written : Replied (bench counting Ready word_write) word_write (words 0x1234 500)
  unfolding number function_of
  word_written =
      replied counting WriteOne Word 0x06 1 (0x12 ∷ 0x34 ∷ []) refl (omega arith) refl (omega arith) (omega arith) tt
      (omega arith) _ _ refl (word_1_set 0x1234)

  bits_written : Replied (bench counting Ready (request 20 0x0f (start_for counting 24) (0x00 ∷ 0x03 ∷ 0x01 ∷ 0xfc ∷ [])))
      (request 20 0x0f (start_for counting 24) (0x00 ∷ 0x03 ∷ [])) (words 1256 500)
  unfolding number function_of
  bits_written =
      replied counting WriteRun Bit 0x0f 24 (0x00 ∷ 0x03 ∷ 0x01 ∷ 0xfc ∷ []) refl (omega arith) refl (omega arith) (omega arith)
      refl (omega arith) _ _ refl bits_24_to_26_set

  words_written : Replied
      (bench counting Ready (request 20 0x10 (start_for counting 1) (0x00 ∷ 0x02 ∷ 0x04 ∷ 0x12 ∷ 0x34 ∷ 0x56 ∷ 0x78 ∷ [])))
      (request 20 0x10 (start_for counting 1) (0x00 ∷ 0x02 ∷ [])) (words 0x1234 0x5678)
  unfolding number function_of
  words_written =
      replied counting WriteRun Word 0x10 1 (0x00 ∷ 0x02 ∷ 0x04 ∷ 0x12 ∷ 0x34 ∷ 0x56 ∷ 0x78 ∷ []) refl (omega arith) refl
      (omega arith) (omega arith) refl (omega arith) _ _ refl words_1_and_2_set

-- ---- damage

-- a body is sent with its check word, and something else is received
pub damaged : (body received : List ℕ) → 2 ≤ length body → length body ≤ 254 → are_bytes (framed body) ≡ true
    → are_bytes received ≡ true → length received ≡ length (framed body) → Shown (differ_at (framed body) received)
    → Damaged (framed body) received
damaged body received at_least at_most sent_bytes received_bytes as_long shown =
    record {
      sent_bytes = bytes_by (framed body) sent_bytes;
      at_least = omega (arith, framed_length body);
      at_most = omega (arith, framed_length body);
      right = check-word.Framing body;
      received_bytes = bytes_by received received_bytes;
      as_long = as_long;
      shown = shown;
    }

damage_told : (sent received : List ℕ) → Damaged sent received → Told (bench ModBus Ready received) (Silent Silence.CheckWord)
damage_told sent received d =
    told_silent _ Silence.CheckWord
    (past_length ModBus Ready (omega (arith, d.at_least, d.as_long)) (omega (arith, d.at_most, d.as_long))
    (inl (check-word.Damage sent received d, refl)))

-- words 1 and 2 are asked of a station
abbrev pub two_words_of : ℕ → List ℕ
two_words_of station = station ∷ 0x03 ∷ 0x00 ∷ 0x01 ∷ 0x00 ∷ 0x02 ∷ []

one_flip : Damaged two_words (0x14 ∷ 0x03 ∷ 0x00 ∷ 0x01 ∷ 0x00 ∷ 0x02 ∷ 0x97 ∷ 0x0f ∷ [])
unfolding check_word add_bytes add_byte steps step corrected xor bits line_bits differences ones_at
one_flip = damaged (two_words_of 20) _ (omega arith) (omega arith) refl refl refl (odd refl)

two_flips : Damaged W.longest_frame W.longest_received
unfolding check_word add_bytes add_byte steps step corrected xor bits line_bits differences ones_at
two_flips = damaged (replicate 254 0x14) _ (omega arith) (omega arith) refl refl refl (two refl)

three_flips : Damaged two_words W.three_flipped
unfolding check_word add_bytes add_byte steps step corrected xor bits line_bits differences ones_at
three_flips = damaged (two_words_of 20) _ (omega arith) (omega arith) refl refl refl (odd refl)

window_filled : (first : ℕ) → InsideWindow (up_from first window)
window_filled first =
    record { some = omega arith; first = first; inside = λ i h. let e = number_up first window i 0 h in (omega arith, omega arith) }

sixteen_flips : Damaged W.shortest_frame W.shortest_received
unfolding check_word add_bytes add_byte steps step corrected xor bits line_bits differences ones_at
sixteen_flips = damaged (0x14 ∷ 0x07 ∷ []) _ (omega arith) (omega arith) refl refl refl (burst (window_filled 16))

-- ---- the table

word_8_read_only : JudgedBy areas (AddressedBy Word 8 1) SomeReadOnly
word_8_read_only = (
  λ (word, among, none). (areas-of.bench_7_and_8).0 (word, (omega arith, omega arith), none),
  (8, (omega arith, omega arith), (1, omega arith, (refl, (omega arith, omega arith)))),
)

-- the demands give the answer of a call with another image
another_image : Replied (with_image (words 0x0300 0) read_three_bits) (framed (20 ∷ 0x01 ∷ 0x01 ∷ 0x03 ∷ [])) (words 0x0300 0)
unfolding check_word add_bytes add_byte steps step corrected number function_of
another_image =
    let seen = with_image (words 0x0300 0) read_three_bits in
    let (answer, answers) = EveryCall seen (words_fit 0x0300 0 (omega arith) (omega arith)) in
    let (outcome, reply) = DependsOnNothingElse.bits read_three_bits (words 0x0300 0) _ answer (bits_read ModBus 0x01 refl) answers
    refl refl bits_24_to_26_agree in
    let kept = (ReadShows seen answer answers _ (sym outcome) Bit refl).2 in
    subst (Answers seen) (λ i. record { outcome = sym outcome i; image = kept i; reply = sym reply i }) answers

pub Witnesses : W.Witnesses
unfolding check_word add_bytes add_byte steps step corrected number function_of top_bit_set xor bits line_bits differences ones_at
Witnesses = record {
  line_1 = told_refused _ Refusal.OwnAddress (inl (refl, refl));
  line_2 = told_refused _ Refusal.Image (inr (own_set, inl (inl refl, refl)));
  line_3 = told_refused _ Refusal.Areas
      (inr (own_set, inr (image_sized, inl (λ kept. areas-of.reversed_not_kept 16 kept, refl))));
  line_4 = told_refused _ Refusal.ReplyBuffer (inr (own_set, inr (image_sized, inr (areas_kept, inl (omega arith, refl)))));
  line_10 = told_silent _ Silence.FrameLength (past_settings ModBus Ready (inl (inl (omega arith), refl)));
  line_11 = damage_told _ _ one_flip;
  line_12 = told_silent _ Silence.AnotherStation
      (past_check_word ModBus Ready (two_words_of 21) (omega arith) (omega arith) (inl (inr (λ e. omega arith), refl)));
  line_13 = told_silent _ Silence.AtTheKeyboard
      (past_address 0x03 (0x00 ∷ 0x01 ∷ 0x00 ∷ 0x02 ∷ []) (omega arith) ModBus AtTheKeyboard (inl (refl, refl)));
  line_e4 = excepted _ Code.NotReady
      (past_address 0x03 (0x00 ∷ 0x01 ∷ 0x00 ∷ 0x02 ∷ []) (omega arith) ModBus NotReady
      (inr (λ e. apart state_place refl e (omega arith), inl (refl, refl))));
  line_e1 = excepted _ Code.Function (past_state 0x07 [] (omega arith) ModBus (inl (refl, refl)));
  function_83 = excepted _ Code.Function (past_state 0x83 [] (omega arith) ModBus (inl (refl, refl)));
  line_14 = told_silent _ Silence.RequestLength
      (past_function 0x03 [] (omega arith) ModBus Read Word refl (inl (λ e. omega arith, refl)));
  line_15 = told_silent _ Silence.NoQuantity
      (past_request_length 0x03 (0x00 ∷ 0x01 ∷ 0x00 ∷ 0x00 ∷ []) (omega arith) ModBus Read Word refl refl (inl (refl, refl)));
  line_e3 = excepted _ Code.Value
      (past_quantity 0x03 (0x00 ∷ 0x00 ∷ 0x00 ∷ 0x51 ∷ []) (omega arith) ModBus Read Word refl refl (omega arith)
      (inl (inl (omega arith), refl)));
  line_e2 = excepted _ Code.Address
      (by_judging ModBus Read Word 0x03 15 (0x00 ∷ 0x02 ∷ []) refl (omega arith) refl (omega arith) (omega arith) tt
      SomeInNoArea areas-of.bench_15_and_16);
  line_e8 = excepted _ Code.ReadOnly
      (by_judging ModBus WriteOne Word 0x06 8 (0x00 ∷ 0x01 ∷ []) refl (omega arith) refl (omega arith) (omega arith) tt
      SomeReadOnly word_8_read_only);
  function_01_mod_bus = bits_read ModBus 0x01 refl;
  function_01_j_bus = bits_read JBus 0x01 refl;
  function_02_mod_bus = bits_read ModBus 0x02 refl;
  function_02_j_bus = bits_read JBus 0x02 refl;
  function_03_mod_bus = words_read ModBus 0x03 refl;
  function_03_j_bus = words_read JBus 0x03 refl;
  function_04_mod_bus = words_read ModBus 0x04 refl;
  function_04_j_bus = words_read JBus 0x04 refl;
  function_05_mod_bus = bit_written ModBus;
  function_05_j_bus = bit_written JBus;
  function_06_mod_bus = word_written ModBus;
  function_06_j_bus = word_written JBus;
  function_0f_mod_bus = bits_written ModBus;
  function_0f_j_bus = bits_written JBus;
  function_10_mod_bus = words_written ModBus;
  function_10_j_bus = words_written JBus;
  j_bus_start_0 = excepted _ Code.Address
      (past_limits 0x03 (0x00 ∷ 0x00 ∷ 0x00 ∷ 0x02 ∷ []) (omega arith) JBus Read Word refl refl (omega arith) (omega arith) tt
      (inl (inl (refl, refl), refl)));
  words_7_and_8_read =
      replied_if ModBus Read Word 0x03 7 (0x00 ∷ 0x02 ∷ []) refl
      (by_judging ModBus Read Word 0x03 7 (0x00 ∷ 0x02 ∷ []) refl (omega arith) refl (omega arith) (omega arith) tt
      SomeReadOnly areas-of.bench_7_and_8)
      _ image (_, words_7_and_8, refl) refl;
  words_7_and_8_kept = excepted _ Code.ReadOnly
      (by_judging ModBus WriteRun Word 0x10 7 (0x00 ∷ 0x02 ∷ 0x04 ∷ 0x00 ∷ 0x01 ∷ 0x00 ∷ 0x02 ∷ []) refl (omega arith) refl
      (omega arith) (omega arith) refl SomeReadOnly areas-of.bench_7_and_8);
  another_image = another_image;
  two_flips = (two_flips, refl, damage_told _ _ two_flips);
  three_flips = (three_flips, refl, damage_told _ _ three_flips);
  sixteen_flips = (sixteen_flips, window_filled 16, damage_told _ _ sixteen_flips);
}
