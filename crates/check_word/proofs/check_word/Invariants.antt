-- `check_word` meets its contract. Invariant: the word so far, with the bytes that are left, gives the check word.
-- Assumes nothing.
use Rattle.std.proofs.Common.{◌≡◌, drop}
use Rattle.check_word.specs.CheckWord.{add_bytes, check_word}
use Rattle.check_word.proofs.check_word.Given as goal

abbrev pub invariant-loop-byte : goal.invariant-loop-byte
invariant-loop-byte l = add_bytes l.word (drop l.byte-index l.bytes) ≡ check_word l.bytes
