-- An answer that meets the demands is one that the contract allows.
-- Assumes nothing.
use mathlib.Core.Path.{◌≡◌, refl, sym, ap, subst, ◌∙◌}
use mathlib.Core.List.{List}
use Prim.Native.Nat.{ℕ}
use native.Mathlib.Omega.{arith}
use lib.ListN.{length, take, drop}
use lib.Seq.{length-take-le, get_or-take}
use Rattle.registers.specs.Memory.{word_bits, FitIn}
use Rattle.frames.specs.declared.Act.{Act}
use Rattle.frames.specs.declared.Act.TheVariants.{Read, WriteOne, WriteRun}
use Rattle.frames.specs.declared.Width.{Width}
use Rattle.frames.specs.declared.Code.{Code}
use Rattle.frames.specs.Fields.{byte, function_field, quantity_field}
use Rattle.frames.specs.Functions.{function_of}
use Rattle.frames.specs.Limits.{quantity, bytes_for, reply_length}
use Rattle.frames.specs.Exceptions.{code_number, exception_frame}
use Rattle.slave.specs.declared.Outcome.{Outcome}
use Rattle.slave.specs.declared.Outcome.TheVariants.{Refused, Silent, Exception, Reply}
use Rattle.slave.specs.Numbers.{kind_of}
use Rattle.slave.specs.Answer.{Shown, over, ReplyTo, ImageAfter, Call, Answer, Answers, to_send}
use Rattle.demands.specs.Terms.{Slave, lines_of, Does, first_of, KeptBeyond, sent, data_of}
use Rattle.demands.specs.Demands.{Untouched, FirstLineDecides, ReadShows, WriteSetsExactly, ReplyIsAFrame}
use Rattle.demands.proofs.FirstLine.{first_decides, line_of}
use Rattle.demands.proofs.Left.{function_found, IsDone, LeftBy}
use Rattle.demands.proofs.Setting.{stored_one, stored_run, stored_exactly}
use Rattle.demands.proofs.Rebuilt.{written_over, frame_is, data_in_sent}

-- what is sent stands in the reply buffer, and nothing else was written
module _ (answer : Answer) (before : List ℕ) (n : ℕ) (told : to_send answer.outcome ≡ n)
    (kept : KeptBeyond n before answer.reply) where
  sent_length : length (sent answer) ≡ n
  sent_length = length-take-le _ answer.reply (omega (arith, told, kept.room, kept.as_long)) ∙ told

  sent_over : answer.reply ≡ over (sent answer) before
  sent_over = rw (← told) at (written_over n before answer.reply kept)

module _ (slave : Slave) (untouched : Untouched slave) (first_line : FirstLineDecides slave) (shows : ReadShows slave)
    (sets : WriteSetsExactly slave) (frames : ReplyIsAFrame slave) (call : Call) (answer : Answer)
    (fit-before : FitIn word_bits call.image) (fit-after : FitIn word_bits answer.image) (answers : slave call answer) where
  exception_left : (code : Code) → answer.outcome ≡ Exception code
      → answer.reply ≡ over (exception_frame call.station.own (function_field call.frame) (code_number code)) call.reply
  exception_left code is =
      let kept = (untouched.excepted call answer answers code is).1 in
      let (frame, third) = frames.excepted call answer answers code is in
      let bytes = frame_is _ _ _ 0 (sent answer) frame third (sent_length answer call.reply 5 (ap to_send is) kept) in
      sent_over answer call.reply 5 (ap to_send is) kept ∙ ap (λ (xs : List ℕ). over xs call.reply) bytes

  module _ (n : ℕ) (is : answer.outcome ≡ Reply n) where
    kept : KeptBeyond n call.reply answer.reply
    kept = (untouched.replied call answer answers n is).1

    reply_to : (act : Act) (width : Width) → Does call act width → n ≡ reply_length act width (quantity act call.frame)
        → ReplyTo call.station.own (first_of call) call.frame call.image act width (sent answer)
    reply_to Read width does size =
        let m = bytes_for width (quantity_field call.frame) in
        let (shown, count, same) = shows call answer answers n is width does in
        let third : byte (sent answer) 2 ≡ m =
        get_or-take (to_send answer.outcome) answer.reply 2 0 (omega (arith, ap to_send is, size)) ∙ count in
        let data_is : take m (drop 3 (sent answer)) ≡ data_of n answer.reply =
        ap (λ (k : ℕ). take m (drop 3 (take k answer.reply))) (ap to_send is) ∙ data_in_sent n m answer.reply size in (
          take m (drop 3 (sent answer)),
          subst (Shown width (first_of call) (quantity_field call.frame) call.image) (sym data_is) shown,
          frame_is _ _ m m (sent answer) (frames.replied call answer answers n is) third
              (sent_length answer call.reply n (ap to_send is) kept ∙ size),
        )
    reply_to WriteOne width does size = (sets.one call answer answers n is width does).1
    reply_to WriteRun width does size = (sets.run call answer answers n is width does).1

    image_after_lem : (act : Act) (width : Width) → Does call act width
        → ImageAfter (first_of call) call.frame call.image act width answer.image
    image_after_lem Read width does = (shows call answer answers n is width does).2
    image_after_lem WriteOne width does =
        let set = (sets.one call answer answers n is width does).0 in
        rw (stored_one width) (stored_exactly width _ 1 _ call.image answer.image fit-before fit-after set)
    image_after_lem WriteRun width does =
        let set = (sets.run call answer answers n is width does).0 in
        rw (stored_run width) (stored_exactly width _ _ _ call.image answer.image fit-before fit-after set)

    reply_left : LeftBy call (Reply n) answer.image answer.reply
    reply_left =
        let told = (untouched.replied call answer answers n is).0 in
        let (act, width, does, size) = function_found (function_of (function_field call.frame)) _ told in
        let done : IsDone call n answer.image answer.reply act width =
        record {
          bytes = sent answer;
          are_the_reply = reply_to act width does size;
          told = sym (sent_length answer call.reply n (ap to_send is) kept);
          written = sent_over answer call.reply n (ap to_send is) kept;
          stored = image_after_lem act width does;
        } in
        rw does done

  left_by : (outcome : Outcome) → answer.outcome ≡ outcome
      → LeftBy call outcome answer.image answer.reply
  left_by (Refused why) is = untouched.refused call answer answers why is
  left_by (Silent why) is = untouched.silent call answer answers why is
  left_by (Exception code) is = ((untouched.excepted call answer answers code is).0, exception_left code is)
  left_by (Reply n) is = reply_left n is

  pub suffices : Answers call answer
  suffices =
      let (n, few, gives) = line_of call answer.outcome in
      let first = first_line.no_other call answer answers n few gives in
      record {
        decided = first_decides (lines_of call) (kind_of answer.outcome) n first gives;
        left = left_by answer.outcome refl;
      }
