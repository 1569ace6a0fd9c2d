-- The invariant of `pack_words`: the first i words are packed.
-- Assumes nothing.
use Rattle.std.proofs.Common.{◌*◌}
use Rattle.registers.specs.Memory.{image_word, from}
use Rattle.registers.specs.Packing.{WordsPacked, Filled}
use Rattle.registers.proofs.pack_words.Given as goal

abbrev pub invariant-loop-i : goal.invariant-loop-i
invariant-loop-i l = Filled (2 * l.i) (WordsPacked l.i (from l.first (image_word l.image))) l.fn.buffer l.buffer
