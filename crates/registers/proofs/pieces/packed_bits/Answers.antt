-- `packed_bits` meets its contract: three bytes show 24 of the bits, and sixteen of them are taken.
-- Assumes nothing.
use Rattle.std.proofs.Common.{arith, rules}
use Rattle.registers.proofs.Shows.{three_bytes}
use Rattle.registers.proofs.pieces.packed_bits.Goals as goal

pub returns : goal.returns
returns c =
    three_bytes c.args.bytes.now c.args.first c.unwrap_or-low.result c.unwrap_or-middle.result c.unwrap_or-high.result
    c.from_le_bytes-bits.result (λ i. (c.type_inv.bytes i).fits) (search rules) (search rules) (search rules) (omega arith)
