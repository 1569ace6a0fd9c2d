-- The three demands, as specs/Demands.antt states them, of our slave.
-- Assumes nothing.
use mathlib.Core.Path.{refl, ◌∙◌}
use mathlib.Core.Logic.{inl}
use native.Mathlib.Omega.{arith}
use Rattle.check_word.proofs.Laws as check-word
use Rattle.frames.specs.declared.Act.TheVariants.{Read, WriteOne, WriteRun}
use Rattle.frames.specs.Fields.{function_field}
use Rattle.frames.specs.Exceptions.{code_number, exception_frame, exception_length}
use Rattle.slave.specs.declared.Outcome.TheVariants.{Refused, Silent, Exception, Reply}
use Rattle.slave.specs.Numbers.{kind_of}
use Rattle.slave.specs.Answer.{Answers}
use Rattle.slave.proofs.Laws as slave
use Rattle.demands.specs.Terms.{lines_of, lines_before_e2}
use Rattle.demands.specs.Demands as demands
use Rattle.demands.proofs.Answerable.{answerable}
use Rattle.demands.proofs.FirstLine.{first_gives, no_other}
use Rattle.demands.proofs.Left.{not_refused, is_silent, kept_beyond, left_by, done, done_by, done_sent}
use Rattle.demands.proofs.Accepted.{has_room}
use Rattle.demands.proofs.Showing.{read_shows}
use Rattle.demands.proofs.Setting.{stored_one, stored_run, sets_exactly}
use Rattle.demands.proofs.Framing.{reply_frame, exception_frame_lem}
use Rattle.demands.proofs.Depending.{agree_on_words, agree_on_bits, no_read}
use Rattle.demands.proofs.OneHigher.{one_higher}
use Rattle.demands.proofs.Damaged.{damage_line}

pub EveryCall : demands.EveryCall Answers
EveryCall = answerable

pub Untouched : demands.Untouched Answers
Untouched = record {
  refused = λ call answer answers why is. left_by call answer answers (Refused why) is;
  silent = λ call answer answers why is. left_by call answer answers (Silent why) is;
  excepted = λ call answer answers code is.
      let left = left_by call answer answers (Exception code) is in
      let room = has_room call answer answers (Exception code) is (λ e. omega arith) in
      let bytes = exception_frame call.station.own (function_field call.frame) (code_number code) in
      (left.0, kept_beyond bytes call.reply answer.reply exception_length refl (omega arith) left.1);
  replied = λ call answer answers n is.
      let (act, width, does, d) = done_by call answer answers n is in
      let (told, least, most) = slave.ReplyLength call answer answers n is in
      let room = has_room call answer answers (Reply n) is (λ e. omega arith) in
      (told, kept_beyond d.bytes call.reply answer.reply n d.told (omega arith) d.written);
}

pub FirstLineDecides : demands.FirstLineDecides Answers
FirstLineDecides = record {
  decides = λ call answer answers n first. first_gives (lines_of call) (kind_of answer.outcome) n answers.decided first;
  no_other = λ call answer answers n few is. no_other call (kind_of answer.outcome) n answers.decided few is;
}

pub ReadShows : demands.ReadShows Answers
ReadShows call answer answers n is width does = read_shows call answer n width (done call answer answers n is Read width does)

pub WriteSetsExactly : demands.WriteSetsExactly Answers
WriteSetsExactly = record {
  one = λ call answer answers n is width does.
      let d = done call answer answers n is WriteOne width does in (
        sets_exactly width _ 1 _ call.image answer.image (rw (stored_one width) at d.stored),
        done_sent call answer answers n is WriteOne width d ∙ d.are_the_reply,
      );
  run = λ call answer answers n is width does.
      let d = done call answer answers n is WriteRun width does in (
        sets_exactly width _ _ _ call.image answer.image (rw (stored_run width) at d.stored),
        done_sent call answer answers n is WriteRun width d ∙ d.are_the_reply,
      );
}

pub DependsOnNothingElse : demands.DependsOnNothingElse Answers
DependsOnNothingElse = record { words = agree_on_words; bits = agree_on_bits; nothing = no_read }

pub JBusCounting : demands.JBusCounting Answers
JBusCounting = record {
  one_higher = one_higher;
  start_0 = λ call answer answers nothing none.
      first_gives (lines_of call) (kind_of answer.outcome) lines_before_e2 answers.decided (inl nothing, none);
}

pub ReplyIsAFrame : demands.ReplyIsAFrame Answers
ReplyIsAFrame = record { replied = reply_frame; excepted = exception_frame_lem }

pub Sum : demands.Sum
Sum = check-word.Sum

pub Damage : demands.Damage Answers
Damage call answer answers right damaged kept =
    let told = damage_line call right damaged (kind_of answer.outcome) (not_refused answer.outcome kept) answers.decided in
    let (why, silent) = is_silent answer.outcome 11 told in
    (told, Untouched.silent call answer answers why silent)
