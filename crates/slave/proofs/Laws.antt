-- The laws of the slave, as specs/Laws.antt states them.
-- Assumes nothing.
use mathlib.Core.Path.{ap}
use mathlib.Core.Logic.{inl, inr}
use mathlib.Core.List.{List}
use Prim.Native.Nat.{ℕ}
use native.Mathlib.Decide.{dec_le}
use native.Mathlib.Omega.{arith}
use lib.ListN.{length, replicate, length-replicate}
use Rattle.promise.proofs.Promise.{back_apart}
use Rattle.areas.specs.declared.Area.{Area}
use Rattle.areas.specs.declared.AreaList.{AreaList}
use Rattle.areas.specs.Holding.{empty_area}
use Rattle.areas.specs.Rules.{most_areas}
use Rattle.areas.specs.Calls.{list_entries, listed}
use Rattle.areas.proofs.Laws as areas-laws
use Rattle.slave.specs.declared.Outcome.{Outcome}
use Rattle.slave.specs.Laws as laws
use Rattle.slave.specs.Numbers.{refusal_number, silence_number}
use Rattle.slave.specs.Answer.{Call, Answer, Answers}
use Rattle.slave.proofs.Reasons.{refusal_of, refusal_back, silence_of, silence_back}
use Rattle.slave.proofs.Determined.{answers_determined}
use Rattle.slave.proofs.Lengths.{answer_lengths}
use Rattle.slave.proofs.Broken.{broken_alike}

pub RespondDetermined : laws.RespondDetermined
RespondDetermined = answers_determined

pub RespondToWordsDetermined : laws.RespondToWordsDetermined
RespondToWordsDetermined station area_words frame image reply x y p q =
    let (areas, stand) = areas-laws.WordsStandFor area_words (length image) in
    RespondDetermined (record { station = station; areas = areas; frame = frame; image = image; reply = reply }) x y (p areas stand)
    (q areas stand)

pub OneStandsFor : laws.OneStandsFor
OneStandsFor areas =
    elim (dec_le (length areas) most_areas) [
      | yes few ↦ let (list, entries, same) = areas-laws.ListedBySome areas few in (list, entries, inl same)
      | no many ↦
          let unused : AreaList = record { entries = replicate list_entries empty_area; len = list_entries } in
          let entries = length-replicate list_entries empty_area in
          let long = areas-laws.ListedTooLong unused entries (omega arith) in
          (unused, entries, inr (omega (arith, long), omega arith))
    ]

pub LentOrByValue : laws.LentOrByValue
LentOrByValue station areas list stands frame image reply x y image_x reply_x image_y reply_y p q =
    let same = answers_determined (call_of (listed list)) (answer_of x image_x reply_x) (answer_of y image_y reply_y)
    (by_value stands) q in
    (ap (λ a. a.outcome) same, ap (λ a. a.image) same, ap (λ a. a.reply) same)
  where
    call_of : List Area → Call
    call_of list = record { station = station; areas = list; frame = frame; image = image; reply = reply }

    answer_of : Outcome → List ℕ → List ℕ → Answer
    answer_of outcome image reply = record { outcome = outcome; image = image; reply = reply }

    -- what the lent call answers, the call by value may answer
    by_value : laws.StandsFor list areas → Answers (call_of (listed list)) (answer_of x image_x reply_x)
    by_value (inl e) = rw e p
    by_value (inr (listed-long, long)) =
        broken_alike station areas (listed list) frame image reply x image_x reply_x (λ rules. omega (arith, rules.at_most_sixteen))
        (λ rules. omega (arith, rules.at_most_sixteen)) p

pub RefusalsApart : laws.RefusalsApart
RefusalsApart = back_apart refusal_number refusal_of refusal_back

pub SilencesApart : laws.SilencesApart
SilencesApart = back_apart silence_number silence_of silence_back

pub ReplyLength : laws.ReplyLength
ReplyLength call answer answers n is =
    let lengths = answer_lengths call answer answers n is in
    (lengths.told, lengths.reply.0, lengths.reply.1)

pub AcceptedLength : laws.AcceptedLength
AcceptedLength call answer answers n is = (answer_lengths call answer answers n is).request
