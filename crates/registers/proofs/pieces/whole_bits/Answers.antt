-- `whole_bits` meets its contract: two bytes are the sixteen bits where they start with a byte, and else sixteen of three bytes' are taken.
-- Assumes nothing.
use Rattle.std.proofs.Common.{arith, rules, ◌+◌, ◌/◌, get_or}
use Rattle.registers.proofs.Shows.{two_bytes, three_bytes}
use Rattle.registers.proofs.pieces.whole_bits.Goals as goal

pub returns-then-place-eq0 : goal.returns-then-place-eq0
returns-then-place-eq0 c =
    two_bytes c.args.bytes.now c.args.first c.from_le_bytes.result (λ i. (c.type_inv.bytes i).fits) c.if-place-eq0.true (omega arith)

pub returns : goal.returns
returns c =
    let bytes = c.args.bytes.now in
    let at = c.args.first / 8 in
    three_bytes bytes c.args.first (get_or bytes at 0) (get_or bytes (at + 1) 0) (get_or bytes (at + 2) 0)
    c.from_le_bytes-bits.result (λ i. (c.type_inv.bytes i).fits) (search rules) (search rules) (search rules) (omega arith)
