-- `pack` meets its contract: the run fits, so it is packed.
-- Assumes nothing.
use Rattle.promise.proofs.Promise.{attempt_done}
use Rattle.slave.proofs.decide.Request.pack.Goals as goal

pub returns-in-Bit : goal.returns-in-Bit
returns-in-Bit c = rw c.in-Bit.is (attempt_done _ _ _ _ _ c.pack_bits.ensures (rw c.in-Bit.is at c.requires))

pub returns-in-Word : goal.returns-in-Word
returns-in-Word c = rw c.in-Word.is (attempt_done _ _ _ _ _ c.pack_words.ensures (rw c.in-Word.is at c.requires))
