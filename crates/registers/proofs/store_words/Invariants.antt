-- The invariant of `store_words`: the first n words are stored.
-- Assumes nothing.
use Rattle.registers.specs.Packing.{packed_word}
use Rattle.registers.specs.Storing.{WordsStored}
use Rattle.registers.proofs.store_words.Given as goal

abbrev pub invariant-loop-n : goal.invariant-loop-n
invariant-loop-n l = WordsStored l.first l.n (packed_word l.bytes) l.fn.image l.image
