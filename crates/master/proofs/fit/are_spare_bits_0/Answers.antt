-- `are_spare_bits_0` meets its contract: they are 0 if the last byte stays what it is without them.
-- Assumes nothing.
use Rattle.std.proofs.Common.{sym, ◌∙◌, eqb, eqb-true, eq-eqb}
use Rattle.promise.proofs.Promise.{decides_by}
use Rattle.registers.specs.Memory.{byte_bits, FitIn}
use Rattle.master.proofs.SpareBits.{spare_0_last_stays, last_stays_spare_0}
use Rattle.master.proofs.fit.are_spare_bits_0.Goals as goal

pub returns-in-Bit : goal.returns-in-Bit
returns-in-Bit c =
    let a = c.args in
    let size = rw c.in-Bit.is at c.requires.1 in
    let fit : FitIn byte_bits a.packed.now = λ i. (c.type_inv.packed i).fits in
    let off = c.without_spare_bits in
    rw c.in-Bit.is
    (decides_by _ (eqb off.result _)
    (λ e. last_stays_spare_0 a.count a.packed.now fit size c.requires.0 (sym off.ensures ∙ eqb-true _ _ e))
    (λ spare. eq-eqb _ _ (off.ensures ∙ spare_0_last_stays a.count a.packed.now fit size c.requires.0 spare)))
