-- `put` meets its contract: the head, what follows it, and their check word behind them.
-- Assumes nothing.
use Rattle.std.proofs.Common.{arith, refl, ◌⊎◌, inl, inr, ◌≡◌, List, [], ◌∷◌, ◌+◌, ℕ, length}
use Rattle.frames.specs.declared.Act.{Act}
use Rattle.frames.specs.declared.Act.TheVariants.{Read, WriteOne}
use Rattle.frames.specs.declared.Width.{Width}
use Rattle.frames.specs.Limits.{bytes_for}
use Rattle.master.specs.Requests.{act, width}
use Rattle.master.specs.Building.{Following}
use Rattle.master.proofs.Putting.{request_put, run_behind}
use Rattle.master.proofs.SpareBits.{packed_size}
use Rattle.master.proofs.Request.put.Goals as goal

-- nothing follows the head
none_follows : (does : Act) (width : Width) (operand : ℕ) (carried : List ℕ) → (does ≡ Read) ⊎ (does ≡ WriteOne)
    → Following does width operand carried []
none_follows does width operand carried (inl reads) = rw reads refl
none_follows does width operand carried (inr writes) = rw writes refl

pub returns-in-Read : goal.returns-in-Read
returns-in-Read c =
    let request = c.args.self in
    let xs = c.args.carried.now in
    request_put request xs c.args.frame.now 6 _ [] _ _
    (none_follows (act request) (width request) request.operand xs (rw c.act.ensures at c.in-Read.is)) refl
    c.put_head.ensures c.put_end.ensures

pub returns-in-WriteRun : goal.returns-in-WriteRun
returns-in-WriteRun c =
    let request = c.args.self in
    let xs = c.args.carried.now in
    let frame = c.args.frame.now in
    let is = c.in-WriteRun.ensures in
    let long = rw (← is) at c.requires.1 in
    let run = rw c.width-width.ensures at c.put_run.ensures in
    let size = packed_size (width request) request.operand xs run.packed run.are_packed in
    request_put request xs frame (7 + length xs) _ (bytes_for (width request) request.operand ∷ run.packed) _ _
    (rw (← is) (run.packed, run.are_packed, refl)) (omega (arith, size, long))
    (run_behind request xs frame _ _ c.put_head.ensures run)
    c.put_end-in-WriteRun.ensures
