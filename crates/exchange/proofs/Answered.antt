-- To a built request the slave's lines 10 to 12, E1, 14, 15 and E3 do not apply, so that its answer is one of the others.
-- Assumes nothing.
use mathlib.Core.Path.{◌≡◌, refl, sym, ap, ◌∙◌}
use mathlib.Core.Logic.{◌⊎◌, inl, inr, ⊎_elim}
use mathlib.Core.List.{List}
use Prim.Native.Nat.{ℕ, ◌≤◌, ◌<◌}
use native.Mathlib.Omega.{arith}
use lib.ListN.{length}
use Rattle.check_word.specs.Frame.{shortest, longest}
use Rattle.frames.specs.declared.Act.TheVariants.{WriteOne}
use Rattle.frames.specs.declared.Width.TheVariants.{Bit}
use Rattle.frames.specs.declared.Code.TheVariants as Code
use Rattle.frames.specs.Limits.{bytes_for}
use Rattle.slave.specs.declared.Silence.TheVariants as Silence
use Rattle.slave.specs.declared.Outcome.{Outcome}
use Rattle.slave.specs.declared.Outcome.TheVariants.{Refused, Silent, Exception, Reply}
use Rattle.slave.specs.Numbers.{kind_of}
use Rattle.slave.specs.Conditions.{AnotherStation, NoFunction, WrongLength, OfFunction, QuantityZero, OutOfLimits}
use Rattle.slave.specs.Answer.{Call, Answer, Answers}
use Rattle.slave.proofs.Cases.{act_place, width_place, lookup_place, apart}
use Rattle.demands.specs.Terms.{lines_of, given, Applies, behind_the_table}
use Rattle.demands.proofs.Demands.{FirstLineDecides}
use Rattle.master.specs.declared.Function.{Function}
use Rattle.master.specs.declared.Function.TheVariants.{ReadBits01, ReadBits02, ReadWords03, ReadWords04, WriteBit05, WriteWord06, WriteBits0F, WriteWords10}
use Rattle.master.specs.declared.Request.{Request}
use Rattle.master.specs.Requests.{act_of, width_of, act, width}
use Rattle.master.specs.Refusals as master
use Rattle.exchange.specs.Terms.{Received, CallNotRefused, GivenToABuiltRequest}
use Rattle.exchange.proofs.Fields.{right_received, size_received, does, station_received, operand_received, quantity_received, long_received, byte_count_received}

-- 05 alone writes one bit
one_bit_05 : (function : Function) → act_of function ≡ WriteOne → width_of function ≡ Bit → function ≡ WriteBit05
one_bit_05 ReadBits01 one bit = absurd (apart act_place one refl (omega arith))
one_bit_05 ReadBits02 one bit = absurd (apart act_place one refl (omega arith))
one_bit_05 ReadWords03 one bit = absurd (apart act_place one refl (omega arith))
one_bit_05 ReadWords04 one bit = absurd (apart act_place one refl (omega arith))
one_bit_05 WriteBit05 one bit = refl
one_bit_05 WriteWord06 one bit = absurd (apart width_place bit refl (omega arith))
one_bit_05 WriteBits0F one bit = absurd (apart act_place one refl (omega arith))
one_bit_05 WriteWords10 one bit = absurd (apart act_place one refl (omega arith))

module _ {request : Request} {carried : List ℕ} {call : Call} (received : Received request carried call) where
  -- ---- building did not refuse with 70

  pub limits_kept : master.OutOfLimits request → ⊥
  limits_kept out = received.built.0.0 (inr (inl out))

  pub station_kept : request.station ≡ 0 → ⊥
  station_kept none = received.built.0.0 (inr (inr (inl none)))

  -- ---- the lines

  not_10 : (length call.frame < shortest) ⊎ (longest < length call.frame) → ⊥
  not_10 = ⊎_elim (λ few. omega (arith, size_received received)) (λ many. omega (arith, size_received received))

  not_12 : AnotherStation call.station call.frame → ⊥
  not_12 (inl none) = station_kept (sym (station_received received) ∙ none)
  not_12 (inr other) = other (station_received received ∙ sym received.address)

  not_e1 : NoFunction call.frame → ⊥
  not_e1 none = apart lookup_place (does received) none (omega arith)

  not_14 : WrongLength call.frame → ⊥
  not_14 wrong = (rw (does received) at wrong) (long_received received)

  not_15 : QuantityZero call.frame → ⊥
  not_15 none = limits_kept (inl (sym (quantity_received received) ∙ (rw (does received) at none)))

  within_limits : OutOfLimits call.frame (act request) (width request) → ⊥
  within_limits (inl over) = limits_kept (inr (inl (omega (arith, over, quantity_received received))))
  within_limits (inr (inl (run, other))) =
      other (byte_count_received received run ∙ ap (bytes_for (width request)) (sym (operand_received received)))
  within_limits (inr (inr (one, bit, no_value))) =
      limits_kept (inr (inr (one_bit_05 request.function one bit, λ value. no_value (rw (operand_received received) value))))

  not_e3 : OfFunction call.frame (OutOfLimits call.frame) → ⊥
  not_e3 out = within_limits (rw (does received) at out)

  -- ---- the answer, by its outcome

  module _ {answer : Answer} (answers : Answers call answer) (kept : CallNotRefused answer) where
    -- the line that gave the outcome applies (by its place, counted from 0: line 10 has place 4)
    applies : (n : ℕ) → n ≤ behind_the_table → kind_of answer.outcome ≡ given (lines_of call) n → Applies (lines_of call) n
    applies n few gives = (FirstLineDecides.no_other call answer answers n few gives).0

    answered_by : (outcome : Outcome) → answer.outcome ≡ outcome → GivenToABuiltRequest (kind_of outcome)
    answered_by (Refused why) is = absurd (kept why is)
    answered_by (Silent Silence.FrameLength) is = absurd (not_10 (applies 4 (omega arith) (ap kind_of is)))
    answered_by (Silent Silence.CheckWord) is = absurd (applies 5 (omega arith) (ap kind_of is) (right_received received))
    answered_by (Silent Silence.AnotherStation) is = absurd (not_12 (applies 6 (omega arith) (ap kind_of is)))
    answered_by (Silent Silence.AtTheKeyboard) is = inl refl
    answered_by (Silent Silence.RequestLength) is = absurd (not_14 (applies 10 (omega arith) (ap kind_of is)))
    answered_by (Silent Silence.NoQuantity) is = absurd (not_15 (applies 11 (omega arith) (ap kind_of is)))
    answered_by (Exception Code.NotReady) is = inr (inl refl)
    answered_by (Exception Code.Function) is = absurd (not_e1 (applies 9 (omega arith) (ap kind_of is)))
    answered_by (Exception Code.Value) is = absurd (not_e3 (applies 12 (omega arith) (ap kind_of is)))
    answered_by (Exception Code.Address) is = inr (inr (inl refl))
    answered_by (Exception Code.ReadOnly) is = inr (inr (inr (inl refl)))
    answered_by (Reply n) is = inr (inr (inr (inr refl)))

    pub answered : GivenToABuiltRequest (kind_of answer.outcome)
    answered = answered_by answer.outcome refl
