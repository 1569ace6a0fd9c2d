-- `store_whole` meets its contract: one turn stores one word more.
-- Assumes nothing.
use Rattle.std.proofs.Common.{arith, ap}
use Rattle.registers.specs.Memory.{from}
use Rattle.registers.specs.Packing.{packed_bit}
use Rattle.registers.proofs.Shows.{shows_run}
use Rattle.registers.proofs.Stored.{stored_next}
use Rattle.registers.proofs.pieces.store_whole.Goals as goal

pub loop-i-preserved : goal.loop-i-preserved
loop-i-preserved c =
    let bytes = c.args.bytes.now in
    stored_next c.args.word c.loop-i.i c.whole_bits.result (from c.args.first (packed_bit bytes)) c.args.image.now c.loop-i.image
    (omega arith) c.loop-i.invariant (shows_run c.whole_bits.ensures (λ p h. ap (packed_bit bytes) (omega arith)))
