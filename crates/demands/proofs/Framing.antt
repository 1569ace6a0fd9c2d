-- Replies and exceptions are frames.
-- Assumes nothing.
use mathlib.Core.Path.{◌≡◌, refl, sym, ap, subst, ◌∙◌}
use mathlib.Core.List.{List, [], ◌∷◌}
use Prim.Native.Nat.{ℕ, ◌≤◌, ◌<◌}
use native.Mathlib.Omega.{arith}
use lib.ListN.{length, get_or-append}
use lib.Seq.{get_or-take, length-take-le}
use Rattle.check_word.specs.CheckWord.{check_word}
use Rattle.check_word.specs.Frame.{low_first, framed}
use Rattle.check_word.proofs.Laws as check-word
use Rattle.frames.specs.declared.Act.{Act}
use Rattle.frames.specs.declared.Act.TheVariants.{Read, WriteOne, WriteRun}
use Rattle.frames.specs.declared.Width.{Width}
use Rattle.frames.specs.declared.Code.{Code}
use Rattle.frames.specs.Fields.{byte, function_field, quantity_field, up_to_quantity}
use Rattle.frames.specs.Limits.{bytes_for}
use Rattle.frames.specs.Exceptions.{code_number, top_bit_set, exception_frame}
use Rattle.slave.specs.declared.Outcome.TheVariants.{Exception, Reply}
use Rattle.slave.specs.Answer.{Call, Answer, Answers, to_send}
use Rattle.demands.specs.Terms.{Does, sent, FrameOf}
use Rattle.demands.proofs.Left.{left_by, IsDone, done_by, done_sent, sent_is}
use Rattle.demands.proofs.Accepted.{accepted_right, accepted_ours, accepted_long}

framed_frame : (station function : ℕ) (rest : List ℕ) → FrameOf station function (framed (station ∷ function ∷ rest))
framed_frame station function rest =
    record { right = check-word.Framing (station ∷ function ∷ rest); from_station = refl; of_function = refl }

-- the first six bytes of a request, with their own check word, begin as the request does
echo_begins : (frame : List ℕ) → 6 ≤ length frame → (i : ℕ) → i < 6 → byte (framed (up_to_quantity frame)) i ≡ byte frame i
echo_begins frame long i h =
    let few : i < length (up_to_quantity frame) = omega (arith, length-take-le 6 frame long) in
    get_or-append (up_to_quantity frame) (low_first (check_word (up_to_quantity frame))) 0 i few ∙ get_or-take 6 frame i 0 h

module _ (call : Call) (answer : Answer) (answers : Answers call answer) where
  abbrev OurFrame : List ℕ → Type 0
  OurFrame = FrameOf call.station.own (function_field call.frame)

  done_frame : (n : ℕ) → answer.outcome ≡ Reply n → (act : Act) (width : Width) → Does call act width
      → (d : IsDone call n answer.image answer.reply act width) → OurFrame d.bytes
  done_frame n is Read width does d =
      let count = bytes_for width (quantity_field call.frame) in
      subst OurFrame (sym d.are_the_reply.2) (framed_frame _ _ (count ∷ d.are_the_reply.0))
  done_frame n is WriteOne width does d =
      subst OurFrame (sym d.are_the_reply)
      (record {
        right = accepted_right call answer answers n is;
        from_station = accepted_ours call answer answers n is;
        of_function = refl;
      })
  done_frame n is WriteRun width does d =
      let long = accepted_long call answer answers n is WriteRun width does in
      let begins = echo_begins call.frame (omega (arith, long)) in
      subst OurFrame (sym d.are_the_reply)
      (record {
        right = check-word.Framing (up_to_quantity call.frame);
        from_station = begins 0 (omega arith) ∙ accepted_ours call answer answers n is;
        of_function = begins 1 (omega arith);
      })

  pub reply_frame : (n : ℕ) → answer.outcome ≡ Reply n → OurFrame (sent answer)
  reply_frame n is =
      let (act, width, does, d) = done_by call answer answers n is in
      subst OurFrame (sym (done_sent call answer answers n is act width d)) (done_frame n is act width does d)

  pub exception_frame_lem : (code : Code) → answer.outcome ≡ Exception code
      → FrameOf call.station.own (top_bit_set (function_field call.frame)) (sent answer)
      × (byte (sent answer) 2 ≡ code_number code)
  exception_frame_lem code is =
      let bytes = exception_frame call.station.own (function_field call.frame) (code_number code) in
      let are : sent answer ≡ bytes =
      sent_is answer bytes call.reply (ap to_send is) (left_by call answer answers (Exception code) is).1 in
      rw are (framed_frame _ _ (code_number code ∷ []), refl)
