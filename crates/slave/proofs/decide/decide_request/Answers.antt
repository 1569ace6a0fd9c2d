-- `decide_request` meets its contract.
-- Assumes nothing.
use Rattle.std.proofs.Common.{◌≡◌, ◌≢◌, refl, ap, ◌∙◌, List, ℕ, length, Some, inl, inr, rules}
use Rattle.areas.specs.declared.Area.{Area}
use Rattle.frames.specs.declared.Act.{Act}
use Rattle.frames.specs.declared.Width.{Width}
use Rattle.frames.specs.Fields.{function_field}
use Rattle.frames.specs.Functions.{function_of}
use Rattle.frames.specs.Limits.{quantity, request_length}
use Rattle.slave.specs.declared.Station.{Station}
use Rattle.slave.specs.declared.decide.Request.{Request}
use Rattle.slave.specs.declared.decide.Decision.{Decision}
use Rattle.slave.specs.Conditions.{OutOfLimits, counted_from0, NamesNothing}
use Rattle.slave.specs.Deciding.{Reads, Decided, request_lines, area_lines}
use Rattle.slave.proofs.Lines.{here, past}
use Rattle.slave.proofs.Run.{judged_words}
use Rattle.slave.proofs.Judging.{by_verdict_lem}
use Rattle.slave.proofs.decide.decide_request.Goals as goal

-- past lines 14, 15 and E3
past_limits : (station : Station) (areas : List Area) (frame : List ℕ) {act : Act} {width : Width} {decision : Decision}
    → function_of (function_field frame) ≡ Some (act, width) → length frame ≡ request_length act frame → quantity act frame ≢ 0
    → (OutOfLimits frame act width → ⊥) → Decided (area_lines station frame areas) station frame decision
    → Decided (request_lines station frame areas) station frame decision
past_limits station areas frame function long some within later =
    past (λ wrong. (rw function at wrong) long)
    (past (λ none. some (rw function at none)) (past (λ out. within (rw function at out)) later))

pub returns-then-start-eq0 : goal.returns-then-start-eq0
returns-then-start-eq0 c = λ areas judged.
    past_limits c.args.station areas c.args.frame.now c.requires (c.if-frame-request_length.false ∙ c.request_length.ensures)
    (λ none. c.if-count-eq0.false (c.quantity_of-count.ensures ∙ none)) c.if-is_out_of_limits.ensures
    (here (inl (search rules, search rules)) refl tt)

pub returns : goal.returns
returns c =
    let a = c.args in
    let counted = c.quantity_of-count.ensures in
    let first = c.counted_from_0 in
    let start = c.number_at-start.ensures in
    let function = c.requires in
    let request : Request = record { act = a.act; width = a.width; first = first.result; count = c.quantity_of-count.result } in
    let reads : Reads a.station a.frame.now request =
    record {
      function = function;
      first = first.ensures ∙ ap (counted_from0 a.station.counting) start;
      count = counted;
    } in
    let somewhere : NamesNothing a.station a.frame.now → ⊥ = λ n.
    elim c.else-eq.either [ inl other ↦ other.1 (start ∙ n.1) | inr mod_bus ↦ search rules ] in
    λ areas judged.
    let words = rw (function, ← reads.first, ← reads.count) at judged in
    past_limits a.station areas a.frame.now function (c.if-frame-request_length.false ∙ c.request_length.ensures)
    (λ none. c.if-count-eq0.false (counted ∙ none)) c.if-is_out_of_limits.ensures
    (rw c.by_verdict.ensures
    (by_verdict_lem a.station a.frame.now request reads areas somewhere
    a.verdict (judged_words areas a.width first.result request.count (search rules) a.verdict words)))
