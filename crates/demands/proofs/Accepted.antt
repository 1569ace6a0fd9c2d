-- A call that is not refused has room; a request that is accepted has a right check word, our address, and its function's length.
-- Assumes nothing.
use mathlib.Core.Path.{◌≡◌, refl, subst}
use mathlib.Core.Logic.{inr, ◌≢◌}
use Prim.Native.Nat.{ℕ, ◌≤◌}
use native.Mathlib.Omega.{arith}
use lib.ListN.{length}
use Rattle.check_word.specs.Frame.{Right}
use Rattle.frames.specs.declared.Act.{Act}
use Rattle.frames.specs.declared.Width.{Width}
use Rattle.frames.specs.Fields.{station_field}
use Rattle.frames.specs.Limits.{request_length}
use Rattle.slave.specs.declared.Outcome.{Outcome}
use Rattle.slave.specs.declared.Outcome.TheVariants.{Reply}
use Rattle.slave.specs.Numbers.{kind_of}
use Rattle.slave.specs.Conditions.{least_room}
use Rattle.slave.specs.Table.{FirstDecides}
use Rattle.slave.specs.Answer.{Call, Answer, Answers}
use Rattle.slave.proofs.Cases.{kind_place}
use Rattle.slave.proofs.Stable.{still_same, still_right}
use Rattle.slave.proofs.Accepted.{enough_room}
use Rattle.demands.specs.Terms.{lines_of, NoneOfTheFirst, behind_the_table, Does}
use Rattle.demands.proofs.FirstLine.{no_other}

module _ (call : Call) (answer : Answer) (answers : Answers call answer) where
  decided_by : (outcome : Outcome) → answer.outcome ≡ outcome → FirstDecides (lines_of call) (kind_of outcome)
  decided_by outcome is = subst (λ (o : Outcome). FirstDecides (lines_of call) (kind_of o)) is answers.decided

  -- a call that is not refused has room
  pub has_room : (outcome : Outcome) → answer.outcome ≡ outcome → kind_place (kind_of outcome) ≢ 0
      → least_room ≤ length call.reply
  has_room outcome is other =
      enough_room call.station call.areas (length call.image) (length call.reply) call.frame
      (kind_of outcome) other (decided_by outcome is)

  -- no line applies to a request that is accepted: not 11, 12 and 14, which stand at places 5, 6 and 10 of the table
  module _ (n : ℕ) (is : answer.outcome ≡ Reply n) where
    none_applies : NoneOfTheFirst behind_the_table (lines_of call)
    none_applies = (no_other call _ behind_the_table (decided_by (Reply n) is) (omega arith) refl).1

    pub accepted_right : Right call.frame
    accepted_right = still_right call.frame (none_applies 5 (omega arith))

    pub accepted_ours : station_field call.frame ≡ call.station.own
    accepted_ours = still_same _ _ (λ other. none_applies 6 (omega arith) (inr other))

    pub accepted_long : (act : Act) (width : Width) → Does call act width → length call.frame ≡ request_length act call.frame
    accepted_long act width does = still_same _ _ (λ other. none_applies 10 (omega arith) (rw does other))
