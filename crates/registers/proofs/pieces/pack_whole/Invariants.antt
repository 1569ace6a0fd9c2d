-- The invariant of `pack_whole`: the first i times sixteen bits are packed, in the first 2 i bytes.
-- Assumes nothing.
use Rattle.std.proofs.Common.{◌*◌}
use Rattle.registers.specs.Memory.{word_bits, image_bit, from}
use Rattle.registers.specs.Packing.{BitsPacked, Filled}
use Rattle.registers.proofs.pieces.pack_whole.Given as goal

abbrev pub invariant-loop-i : goal.invariant-loop-i
invariant-loop-i l = Filled (2 * l.i) (BitsPacked (l.i * word_bits) (from l.first (image_bit l.image))) l.fn.buffer l.buffer
