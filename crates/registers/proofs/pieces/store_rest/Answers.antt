-- `store_rest` meets its contract: whole words of the run, and then a piece.
-- Assumes nothing.
use Rattle.std.proofs.Common.{arith, ap, subst, ◌≡◌, ℕ, ◌+◌, ◌*◌, ◌/◌, ◌%◌}
use Rattle.registers.specs.Memory.{from}
use Rattle.registers.specs.Packing.{packed_bit}
use Rattle.registers.specs.Storing.{BitsStored}
use Rattle.registers.proofs.Shows.{shows_run}
use Rattle.registers.proofs.Stored.{stored_more}
use Rattle.registers.proofs.pieces.store_rest.Goals as goal

pub returns : goal.returns
returns c =
    let bytes = c.args.bytes.now in
    let count = c.args.count in
    let before = c.args.image.now in
    let after = c.store_piece.new.image in
    let run = from c.args.first (packed_bit bytes) in
    let all : count / 16 * 16 + count % 16 ≡ count = omega arith in
    subst (λ (m : ℕ). BitsStored (c.args.word * 16) m run before after) all
    (stored_more c.args.word (count / 16) (count % 16) c.packed_bits.result run before c.store_whole.new.image after (omega arith)
    c.store_whole.ensures
    (shows_run c.packed_bits.ensures (λ p h. ap (packed_bit bytes) (omega arith)))
    c.store_piece.ensures)
