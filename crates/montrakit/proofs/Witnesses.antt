-- The calls of specs/Witnesses.antt: what is told of calls of the slave and the master that are worked out there.
-- Assumes nothing.
use mathlib.Core.Path.{refl}
use mathlib.Core.Logic.{inl, inr}
use mathlib.Core.List.{List, [], ◌∷◌}
use Prim.Native.Nat.{ℕ}
use native.Mathlib.Omega.{arith}
use Rattle.areas.specs.declared.Access.TheVariants.{ReadOnly, ReadWrite}
use Rattle.areas.proofs.Witnesses.{reversed_not_kept}
use Rattle.frames.specs.declared.Code.TheVariants as Code
use Rattle.slave.specs.declared.Counting.{Counting}
use Rattle.slave.specs.declared.Counting.TheVariants.{ModBus, JBus}
use Rattle.slave.specs.declared.State.{State}
use Rattle.slave.specs.declared.State.TheVariants.{Ready, NotReady, AtTheKeyboard}
use Rattle.slave.specs.declared.Refusal.TheVariants as Refusal
use Rattle.slave.specs.declared.Silence.TheVariants as Silence
use Rattle.slave.specs.declared.Outcome.{Outcome}
use Rattle.slave.specs.declared.Outcome.TheVariants.{Refused, Silent, Exception, Reply}
use Rattle.slave.specs.Answer as slave
use Rattle.slave.specs.Examples.{areas}
use Rattle.master.specs.declared.Function.TheVariants.{ReadBits01, ReadBits02, ReadWords03, ReadWords04, WriteBit05, WriteWord06, WriteBits0F, WriteWords10}
use Rattle.master.specs.declared.Refusal.TheVariants as Unread
use Rattle.std.specs.Prelude.{Ok, Err}
use Rattle.master.specs.declared.Reading.TheVariants as Reading
use Rattle.master.specs.Requests.{function_number}
use Rattle.master.specs.Refusals.{RefusedBy}
use Rattle.master.proofs.Examples as master
use Rattle.demands.specs.Bench.{image, room, station_with, two_words}
use Rattle.demands.specs.Witnesses.{descending}
use Rattle.demands.proofs.Witnesses as demands
use Rattle.areas.specs.Words.{access_word, MeansNothing, area_words, OfNoList}
use Rattle.montrakit.specs.Meanings.{counting_byte, state_byte}
use Rattle.montrakit.specs.Results.{result, bad_argument, outcome_result}
use Rattle.montrakit.specs.Responding.{bad_arguments, Respond}
use Rattle.montrakit.specs.Witnesses as witnesses
use Rattle.montrakit.specs.Witnesses.{bench_words}
use Rattle.areas.proofs.Words.{of_three, of_access}

no_counting_2 : MeansNothing counting_byte 2
no_counting_2 ModBus e = omega (arith, e)
no_counting_2 JBus e = omega (arith, e)

no_state_3 : MeansNothing state_byte 3
no_state_3 Ready e = omega (arith, e)
no_state_3 NotReady e = omega (arith, e)
no_state_3 AtTheKeyboard e = omega (arith, e)

no_access_2 : MeansNothing access_word 2
no_access_2 ReadOnly e = omega (arith, e)
no_access_2 ReadWrite e = omega (arith, e)

no_function_7 : MeansNothing function_number 7
no_function_7 ReadBits01 e = omega (arith, e)
no_function_7 ReadBits02 e = omega (arith, e)
no_function_7 ReadWords03 e = omega (arith, e)
no_function_7 ReadWords04 e = omega (arith, e)
no_function_7 WriteBit05 e = omega (arith, e)
no_function_7 WriteWord06 e = omega (arith, e)
no_function_7 WriteBits0F e = omega (arith, e)
no_function_7 WriteWords10 e = omega (arith, e)

-- what the slave answers to the bench station's areas is told
told : (own : ℕ) (counting : Counting) (state : State) (frame : List ℕ) (outcome : Outcome) (buffer : List ℕ)
    → slave.Respond (station_with own counting state) areas frame image (room 256) outcome image buffer
    → Respond own (counting_byte counting) (state_byte state) bench_words frame image (room 256) (outcome_result outcome) image buffer
unfolding area_words
told own counting state frame outcome buffer answers = inr record {
  station = station_with own counting state;
  settings = record { address = refl; counts = refl; does = refl };
  areas = areas;
  meant = inl refl;
  outcome = outcome;
  answers = answers;
  told_as = refl;
}

-- words of no list are met as the areas that do not ascend
no_list : (own : ℕ) (words : List ℕ) → OfNoList words → (outcome : Outcome)
    → slave.Respond (station_with own ModBus Ready) descending two_words image (room 256) outcome image (room 256)
    → Respond own 0 0 words two_words image (room 256) (outcome_result outcome) image (room 256)
no_list own words none outcome answers = inr record {
  station = station_with own ModBus Ready;
  settings = record { address = refl; counts = refl; does = refl };
  areas = descending;
  meant = inr (none, λ kept. reversed_not_kept 16 kept);
  outcome = outcome;
  answers = answers;
  told_as = refl;
}

of_access_2 : OfNoList (0 ∷ 8 ∷ 2 ∷ [])
of_access_2 = of_access (0 ∷ 8 ∷ 2 ∷ []) 0 (omega arith) no_access_2

-- a bad argument with this number
bad : (counting state number : ℕ) → RefusedBy (bad_arguments counting state) number → (frame buffer : List ℕ)
    → Respond 20 counting state bench_words frame image buffer (result bad_argument number) image buffer
bad counting state number first frame buffer =
    inl record { number = number; first = first; told_as = refl; image_kept = refl; reply_kept = refl }

pub Witnesses : witnesses.Witnesses
Witnesses = record {
  counting_2 = bad 2 0 1 (inl (no_counting_2, refl)) two_words (room 256);
  state_3 = bad 0 3 2 (inr (λ none. none ModBus refl, inl (no_state_3, refl))) two_words (room 256);
  both_bad = bad 2 3 1 (inl (no_counting_2, refl)) two_words (room 256);
  five_words = no_list 20 _ (of_three _ (λ e. omega (arith, e))) (Refused Refusal.Areas) (demands.Witnesses).line_3;
  access_2 = no_list 20 _ of_access_2 (Refused Refusal.Areas) (demands.Witnesses).line_3;
  own_address_0 = no_list 0 _ of_access_2 (Refused Refusal.OwnAddress) (record { decided = inl (refl, refl); left = (refl, refl) });
  silence_11 = told 20 ModBus Ready _ (Silent Silence.CheckWord) _ (demands.Witnesses).line_11;
  silence_13 = told 20 ModBus AtTheKeyboard _ (Silent Silence.AtTheKeyboard) _ (demands.Witnesses).line_13;
  exception_4 = told 20 ModBus NotReady _ (Exception Code.NotReady) _ (demands.Witnesses).line_e4;
  exception_8 = told 20 ModBus Ready _ (Exception Code.ReadOnly) _ (demands.Witnesses).line_e8;
  two_words_read = told 20 ModBus Ready _ (Reply 9) _ (demands.Witnesses).function_03_mod_bus;
  three_bits_by_j_bus = told 20 JBus Ready _ (Reply 6) _ (demands.Witnesses).function_01_j_bus;
  function_7 = inl (no_function_7, refl, refl);
  function_7_read = inl (no_function_7, refl, refl);
  built = inr (ReadWords03, refl, (Ok 8, (master.Examples).built_03, refl));
  values = inr (ReadWords03, refl, (Ok (Reading.Data 4), (master.Examples).read_03, refl));
  written = inr (WriteBit05, refl, (Ok Reading.Written, (master.Examples).read_05, refl));
  exception_read = inr (WriteWord06, refl, (Ok (Reading.Exception Code.ReadOnly), (master.Examples).exception, refl));
  refused_71 = inr (ReadWords03, refl, (Err Unread.CheckWord, (master.Examples).refused_71.1, refl));
}
