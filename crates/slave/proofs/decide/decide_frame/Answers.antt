-- `decide_frame` meets its contract.
-- Assumes nothing.
use Rattle.std.proofs.Common.{rules, ◌≡◌, Some, sym, ap, ◌∙◌, arith}
use mathlib.Core.Logic.{⊎_elim}
use Rattle.frames.specs.Fields.{function_field}
use Rattle.frames.specs.Functions.{function_of}
use Rattle.slave.proofs.Cases.{lookup_place, apart}
use Rattle.slave.proofs.Lines.{past}
use Rattle.slave.proofs.decide.decide_frame.Goals as goal

pub returns : goal.returns
returns c =
    let address = c.byte_at-address.ensures in
    let function : function_of (function_field c.args.frame.now) ≡ Some (c.in-Some.act, c.in-Some.width) =
    sym (c.function_of.ensures ∙ ap function_of c.byte_at-function.ensures) ∙ c.in-Some.is in
    λ areas judged.
    past (⊎_elim (λ few. omega arith) (λ many. omega arith)) (past (λ wrong. wrong c.if-not-is_right.ensures)
    (past (⊎_elim (rw address at c.if-address-eq0.false) (λ other. other (sym address ∙ c.if-address-station.false)))
    (past (λ e. search rules) (past (λ e. search rules)
    (past (λ none. apart lookup_place function none (omega arith)) (c.decide_request.ensures areas judged))))))
