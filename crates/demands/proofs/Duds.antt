-- Each dud of specs/Duds.antt dies on its demand; silence and refusal meet demand 3.
-- Assumes nothing.
use mathlib.Core.Path.{◌≡◌, refl, sym, ap, ◌∙◌}
use mathlib.Core.List.{List}
use Prim.Native.Nat.{ℕ}
use native.Mathlib.Omega.{arith}
use lib.ListN.{length}
use Rattle.registers.specs.Memory.{image_word}
use Rattle.registers.specs.Packing.{packed_word}
use Rattle.frames.specs.declared.Width.TheVariants.{Word}
use Rattle.frames.specs.Fields.{number}
use Rattle.frames.specs.Functions.{function_of}
use Rattle.slave.specs.declared.Outcome.{Outcome}
use Rattle.slave.specs.declared.Outcome.TheVariants.{Refused, Silent, Reply}
use Rattle.slave.specs.Numbers.{accepted, kind_of}
use Rattle.slave.specs.Answer.{over, Call, Answer}
use Rattle.slave.proofs.Cases.{kind_place, apart}
use Rattle.demands.specs.Terms.{lines_of, FirstToApply, behind_the_table, data_of}
use Rattle.demands.specs.Bench.{read_two_words, read_word_1, read_word_2, write_word_1}
use Rattle.demands.specs.Duds as duds
use Rattle.demands.proofs.FirstLine.{no_other}
use Rattle.demands.proofs.Witnesses.{Witnesses}

-- an answer that changes nothing
abbrev pub unchanged : Outcome → Call → Answer
unchanged outcome call = record { outcome = outcome; image = call.image; reply = call.reply }

-- ---- silent, or refusing

-- no line applies to this read
reads : FirstToApply (lines_of read_two_words) behind_the_table
reads = no_other read_two_words accepted behind_the_table Witnesses.function_03_mod_bus.decided (omega arith) refl

pub SilentDies : duds.SilentDies
SilentDies why = record {
  answers = (unchanged (Silent why) read_two_words, (refl, (refl, refl)));
  breaks = λ answer silent law.
      let accepts = law.decides read_two_words answer (refl, refl) behind_the_table reads in
      apart kind_place (ap kind_of silent.0) accepts (omega arith);
}

pub RefusingDies : duds.RefusingDies
RefusingDies why = record {
  answers = (unchanged (Refused why) read_two_words, (refl, (refl, refl)));
  breaks = λ answer refuses law.
      let accepts = law.decides read_two_words answer (refl, refl) behind_the_table reads in
      apart kind_place (ap kind_of refuses.0) accepts (omega arith);
}

pub SilentMeetsDemand3 : duds.SilentMeetsDemand3
SilentMeetsDemand3 call answer silent right damaged not_refused = (ap kind_of silent.0, silent.1)

pub RefusingMeetsDemand3 : duds.RefusingMeetsDemand3
RefusingMeetsDemand3 why call answer refuses right damaged not_refused = absurd (not_refused why refuses.0)

-- ---- a fixed reply: its data would show 1000, which word 1 is, and 500, which word 2 is

pub FixedReplyDies : duds.FixedReplyDies
unfolding number function_of
FixedReplyDies bytes a b (is-a, written-a, kept-a) (is_b, written-b, kept_b) law-a law-b =
    let first = (law-a read_word_1 a (refl, refl) _ is-a Word refl).0.shown 0 (omega arith) in
    let second = (law-b read_word_2 b (refl, refl) _ is_b Word refl).0.shown 0 (omega arith) in
    let replies = ap (λ (reply : List ℕ). packed_word (data_of (length bytes) reply) 0) (written-a ∙ sym written-b) in
    let same : ◌≡◌ {A = ℕ} 1000 500 = sym first ∙ replies ∙ second in
    omega arith

-- ---- echoing alone: word 1 should hold 1234 hex, and still holds 1000

pub EchoDies : duds.EchoDies
unfolding number function_of
EchoDies = record {
  answers = (
    record {
      outcome = Reply (length write_word_1.frame);
      image = write_word_1.image;
      reply = over write_word_1.frame write_word_1.reply;
    },
    (refl, refl, refl),
  );
  breaks = λ answer (is, written, kept) law.
      let set = (law.one write_word_1 answer (refl, refl) _ is Word refl).0.sets 0 (omega arith) in
      let word : ◌≡◌ {A = ℕ} 1000 0x1234 = ap (λ (xs : List ℕ). image_word xs 1) (sym kept) ∙ set in
      omega arith;
}

-- ---- an invented length

pub InventedLengthDies : duds.InventedLengthDies
unfolding number function_of
InventedLengthDies n other = record {
  answers = (unchanged (Reply n) read_two_words, refl);
  breaks = λ answer tells law. other (law.replied read_two_words answer (refl, refl) n tells).0;
}
