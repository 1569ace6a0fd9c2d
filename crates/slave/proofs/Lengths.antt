-- How long an accepted request and its reply are.
-- Assumes nothing.
use mathlib.Core.Path.{◌≡◌, refl, subst, ◌∙◌}
use mathlib.Core.List.{List}
use Rattle.std.specs.Prelude.{Option, Some, None}
use Prim.Native.Nat.{ℕ, ◌≤◌}
use native.Mathlib.Omega.{arith}
use lib.ListN.{length}
use Rattle.frames.specs.declared.Act.{Act}
use Rattle.frames.specs.declared.Width.{Width}
use Rattle.frames.specs.Fields.{function_field}
use Rattle.frames.specs.Functions.{function_of}
use Rattle.frames.specs.Limits.{quantity, reply_length}
use Rattle.frames.proofs.Laws as frames-laws
use Rattle.slave.specs.declared.Outcome.{Outcome}
use Rattle.slave.specs.declared.Outcome.TheVariants.{Reply}
use Rattle.slave.specs.declared.decide.Request.{Request}
use Rattle.slave.specs.Conditions.{OfFound, first_addressed}
use Rattle.slave.specs.Answer.{Done, Call, Answer, Answers}
use Rattle.slave.specs.Deciding.{Reads}
use Rattle.slave.proofs.Reply.{reply_length_lem}
use Rattle.slave.proofs.Accepted.{no_line, possible}

pub record Lengths (lookup : Option (Act × Width)) (frame : List ℕ) (n : ℕ) : Type 0 where
  pub told : OfFound lookup (λ act width. n ≡ reply_length act width (quantity act frame))
  pub reply : (6 ≤ n) × (n ≤ 165)
  pub request : (8 ≤ length frame) × (length frame ≤ 169)

module _ (call : Call) (image reply : List ℕ) (n : ℕ)
    (answers : Answers call (record { outcome = Reply n; image = image; reply = reply })) where
  abbrev IsDone : Act → Width → Type 0
  IsDone act width =
      Done call.station.own (first_addressed call.station call.frame) call.frame call.image call.reply
      act width n image reply

  lengths : (lookup : Option (Act × Width)) → function_of (function_field call.frame) ≡ lookup → OfFound lookup IsDone
      → Lengths lookup call.frame n
  lengths None is done = absurd done
  lengths (Some (act, width)) is done =
      let count = quantity act call.frame in
      let first = first_addressed call.station call.frame in
      let request : Request = record { act = act; width = width; first = first; count = count } in
      let reads : Reads call.station call.frame request = record { function = is; first = refl; count = refl } in
      let words = length call.image in
      let room = length call.reply in
      let none = no_line call.station call.areas words room call.frame answers.decided in
      let can = possible call.station call.areas words room call.frame request none reads in
      let told : n ≡ reply_length act width count =
      done.told ∙ reply_length_lem _ _ call.frame call.image act width done.bytes can.long done.are_the_reply in
      let replies = frames-laws.ReplyLengths act width count can.some can.at_most in
      let requests = frames-laws.RequestLengths act width count call.frame can.at_most can.byte_count in
      record {
        told = told;
        reply = (omega (arith, told, replies.0), omega (arith, told, replies.1));
        request = (omega (arith, can.long, requests.0), omega (arith, can.long, requests.1));
      }

pub answer_lengths : (call : Call) (answer : Answer) → Answers call answer → (n : ℕ) → answer.outcome ≡ Reply n
    → Lengths (function_of (function_field call.frame)) call.frame n
answer_lengths call answer answers n is =
    let replied = subst (λ (outcome : Outcome). Answers call (record { outcome = outcome; image = answer.image; reply = answer.reply }))
    is answers in
    lengths call answer.image answer.reply n replied (function_of (function_field call.frame)) refl replied.left
