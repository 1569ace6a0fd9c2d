-- The invariant of `store_whole`: the first i words are stored.
-- Assumes nothing.
use Rattle.std.proofs.Common.{◌*◌}
use Rattle.registers.specs.Memory.{word_bits, from}
use Rattle.registers.specs.Packing.{packed_bit}
use Rattle.registers.specs.Storing.{BitsStored}
use Rattle.registers.proofs.pieces.store_whole.Given as goal

abbrev pub invariant-loop-i : goal.invariant-loop-i
invariant-loop-i l = BitsStored (l.word * word_bits) (l.i * word_bits) (from l.first (packed_bit l.bytes)) l.fn.image l.image
