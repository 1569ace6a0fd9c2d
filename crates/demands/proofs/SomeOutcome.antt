-- Each line of the answer table applies or does not, so that some outcome is decided.
-- Assumes nothing.
use mathlib.Core.Path.{refl}
use mathlib.Core.Logic.Dec
use mathlib.Core.Logic.{inl, inr}
use mathlib.Core.List.{List, ◌∷◌}
use Prim.Native.Nat.{ℕ}
use native.Mathlib.Decide.{ℕ_discrete, dec_lt}
use lib.ListN.{length}
use Rattle.check_word.specs.Frame.{shortest, longest}
use Rattle.areas.specs.declared.Access.TheVariants as Access
use Rattle.areas.specs.declared.Area.{Area}
use Rattle.areas.specs.Holding.{InNoArea, OfAreaWith}
use Rattle.areas.proofs.Deciding.{dec_addressable, dec_of_area_with, dec_rules_kept}
use Rattle.frames.specs.declared.Code.TheVariants.{Function, Address, Value, NotReady, ReadOnly}
use Rattle.frames.specs.Fields.{function_field}
use Rattle.frames.specs.Functions.{function_of}
use Rattle.slave.specs.declared.Station.{Station}
use Rattle.slave.specs.declared.State.TheVariants as State
use Rattle.slave.specs.declared.Refusal.TheVariants.{OwnAddress, Image, Areas, ReplyBuffer}
use Rattle.slave.specs.declared.Silence.TheVariants.{FrameLength, CheckWord, AnotherStation, AtTheKeyboard, RequestLength, NoQuantity}
use Rattle.slave.specs.declared.Outcome.{Outcome}
use Rattle.slave.specs.declared.Outcome.TheVariants.{Refused, Silent, Exception, Reply}
use Rattle.slave.specs.Numbers.{kind_of}
use Rattle.slave.specs.Conditions.{most_image_words, least_room}
use Rattle.slave.specs.Table.{Line, FirstDecides, table}
use Rattle.slave.proofs.Stable.{dec_right}
use Rattle.demands.proofs.Decidable.{dec_or, dec_state, dec_not_in_table}
use Rattle.demands.proofs.Conditions.{dec_another_station, dec_wrong_length, dec_quantity_zero, dec_out_of_limits, dec_writes, dec_names_nothing, dec_some_addressed}

-- an outcome that the lines decide; the length that is told with a reply is not theirs
pub record Given (lines : List Line) : Type 0 where
  pub outcome : Outcome
  pub decided : FirstDecides lines (kind_of outcome)

infixr 20 ◌when◌otherwise◌
◌when◌otherwise◌ : {When : Type 0} {lines : List Line} (outcome : Outcome) → Dec When → Given lines
    → Given ((kind_of outcome, When) ∷ lines)
outcome when yes applies otherwise later = record { outcome = outcome; decided = inl (applies, refl) }
outcome when no not otherwise later = record { outcome = later.outcome; decided = inr (not, later.decided) }

pub some_outcome : (station : Station) (areas : List Area) (words room : ℕ) (frame : List ℕ)
    → Given (table station areas words room frame)
some_outcome station areas words room frame =
    let in-no-area = dec_some_addressed station frame (InNoArea areas) (λ word. Dec.not (dec_addressable areas word)) in
    let read_only = dec_some_addressed station frame (OfAreaWith Access.ReadOnly areas) (dec_of_area_with Access.ReadOnly areas) in
    Refused OwnAddress when ℕ_discrete station.own 0
    otherwise Refused Image when dec_or (ℕ_discrete words 0) (dec_lt most_image_words words)
    otherwise Refused Areas when Dec.not (dec_rules_kept words areas)
    otherwise Refused ReplyBuffer when dec_lt room least_room
    otherwise Silent FrameLength when dec_or (dec_lt (length frame) shortest) (dec_lt longest (length frame))
    otherwise Silent CheckWord when Dec.not (dec_right frame)
    otherwise Silent AnotherStation when dec_another_station station frame
    otherwise Silent AtTheKeyboard when dec_state station.state State.AtTheKeyboard
    otherwise Exception NotReady when dec_state station.state State.NotReady
    otherwise Exception Function when dec_not_in_table (function_of (function_field frame))
    otherwise Silent RequestLength when dec_wrong_length frame
    otherwise Silent NoQuantity when dec_quantity_zero frame
    otherwise Exception Value when dec_out_of_limits frame
    otherwise Exception Address when dec_or (dec_names_nothing station frame) in-no-area
    otherwise Exception ReadOnly when Dec.and (dec_writes frame) read_only
    otherwise record { outcome = Reply 0; decided = refl }
