-- What goes onto the line stands inside the reply buffer.
-- Assumes nothing.
use Rattle.std.proofs.Common.{ap, Option, Some, None, List, [], ◌∷◌, ℕ, ◌≤◌, length, drop, length-append, arith}
use Rattle.frames.specs.declared.Act.{Act}
use Rattle.frames.specs.declared.Width.{Width}
use Rattle.frames.specs.Fields.{function_field}
use Rattle.frames.specs.Functions.{function_of}
use Rattle.frames.specs.Exceptions.{code_number, exception_frame, top_bit_set}
use Rattle.slave.specs.declared.Station.{Station}
use Rattle.slave.specs.declared.Outcome.{Outcome}
use Rattle.slave.specs.declared.Outcome.TheVariants.{Refused, Silent, Exception, Reply}
use Rattle.slave.specs.Conditions.{OfFound, first_addressed}
use Rattle.slave.specs.Answer.{Done, Leaves, Call, Answer, Answers, to_send}
use Rattle.slave.proofs.Reply.{framed_length}

module _ (station : Station) (frame image reply image_after reply_after : List ℕ) where
  reply_within : (n : ℕ) (lookup : Option (Act × Width))
      → OfFound lookup (λ act width. Done station.own (first_addressed station frame) frame image reply act width n image_after reply_after)
      → n ≤ length reply_after
  reply_within n None done = absurd done
  reply_within n (Some (act, width)) done =
      omega (arith, done.told, ap length done.written, length-append done.bytes (drop (length done.bytes) reply))

  leaves_within : (outcome : Outcome) → Leaves station frame image reply outcome image_after reply_after
      → to_send outcome ≤ length reply_after
  leaves_within (Refused why) left = omega arith
  leaves_within (Silent why) left = omega arith
  leaves_within (Exception code) left =
      let bytes = exception_frame station.own (function_field frame) (code_number code) in
      let size = framed_length (station.own ∷ top_bit_set (function_field frame) ∷ code_number code ∷ []) in
      omega (arith, size, ap length left.1, length-append bytes (drop (length bytes) reply))
  leaves_within (Reply n) left = reply_within n (function_of (function_field frame)) left

pub sent_within : (call : Call) (answer : Answer) → Answers call answer → to_send answer.outcome ≤ length answer.reply
sent_within call answer answers =
    leaves_within call.station call.frame call.image call.reply answer.image answer.reply answer.outcome answers.left
