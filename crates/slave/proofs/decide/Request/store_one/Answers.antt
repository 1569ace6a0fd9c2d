-- `store_one` meets its contract: there is such a bit or word, so it is stored.
-- Assumes nothing.
use Rattle.promise.proofs.Promise.{attempt_done}
use Rattle.slave.proofs.decide.Request.store_one.Goals as goal

pub returns-in-Bit : goal.returns-in-Bit
returns-in-Bit c = rw c.in-Bit.is (attempt_done _ _ _ _ _ c.store_bit.ensures (rw c.in-Bit.is at c.requires))

pub returns-in-Word : goal.returns-in-Word
returns-in-Word c = rw c.in-Word.is (attempt_done _ _ _ _ _ c.store_word.ensures (rw c.in-Word.is at c.requires))
