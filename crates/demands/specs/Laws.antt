-- A law on the demands themselves, proved under its name in proofs/Laws.antt.
-- Assumes nothing.
use Rattle.registers.specs.Memory.{word_bits, FitIn}
use Rattle.slave.specs.Answer.{Call, Answer, Answers}
use Rattle.demands.specs.Terms.{Slave}
use Rattle.demands.specs.Demands.{Untouched, FirstLineDecides, ReadShows, WriteSetsExactly, ReplyIsAFrame}

-- For images of 16-bit words the demands leave nothing open: each answer of a slave that meets these five is one that our contract
-- allows, and to one call it allows no two (slave, `RespondDetermined`). (What the demands say of bits does not see a seventeenth.)
abbrev pub Suffice : Type 1
Suffice = (slave : Slave) → Untouched slave → FirstLineDecides slave → ReadShows slave → WriteSetsExactly slave → ReplyIsAFrame slave
    → (call : Call) (answer : Answer) → FitIn word_bits call.image → FitIn word_bits answer.image → slave call answer
    → Answers call answer
