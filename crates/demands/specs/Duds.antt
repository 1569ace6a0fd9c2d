-- The four dud slaves of document 01 ("What the contracts have to nail"), each held to a demand at a call of `Bench`, the fixed
-- reply at two: its answers break the demand. Proved under the same names in proofs/Duds.antt.
-- Assumes nothing.
use Rattle.std.specs.Prelude.{◌≡◌, ◌≢◌, List, ℕ, length}
use Rattle.frames.specs.declared.Act.TheVariants.{Read}
use Rattle.frames.specs.declared.Width.TheVariants.{Word}
use Rattle.frames.specs.Limits.{reply_length}
use Rattle.slave.specs.declared.Refusal.{Refusal}
use Rattle.slave.specs.declared.Silence.{Silence}
use Rattle.slave.specs.declared.Outcome.TheVariants.{Refused, Silent, Reply}
use Rattle.slave.specs.Answer.{over, Call, Answer}
use Rattle.demands.specs.Terms.{Slave, Unchanged}
use Rattle.demands.specs.Demands.{Untouched, FirstLineDecides, ReadShows, WriteSetsExactly, Damage}
use Rattle.demands.specs.Bench.{read_two_words, read_word_1, read_word_2, write_word_1}

-- the slave that gives this answer to this call, and none to another
abbrev pub Gives : Call → Answer → Slave
Gives call answer other given = (other ≡ call) × (given ≡ answer)

-- this slave answers this call, and each of its answers breaks the law
pub record DiesOn (Law : Slave → Type 0) (slave : Slave) (call : Call) : Type 0 where
  pub answers : (answer : Answer) × slave call answer
  pub breaks : (answer : Answer) → slave call answer → Law (Gives call answer) → ⊥

-- ---- "One silent to everything, or refusing every call, meets demand 3 but not 2, which says when silence is allowed."

abbrev pub SilentToEverything : Silence → Slave
SilentToEverything why call answer = (answer.outcome ≡ Silent why) × Unchanged call answer

abbrev pub SilentDies : Type 0
SilentDies = (why : Silence) → DiesOn FirstLineDecides (SilentToEverything why) read_two_words

-- with number 11; another number does not meet it
abbrev pub SilentMeetsDemand3 : Type 0
SilentMeetsDemand3 = Damage (SilentToEverything Silence.CheckWord)

abbrev pub RefusesEveryCall : Refusal → Slave
RefusesEveryCall why call answer = (answer.outcome ≡ Refused why) × Unchanged call answer

abbrev pub RefusingDies : Type 0
RefusingDies = (why : Refusal) → DiesOn FirstLineDecides (RefusesEveryCall why) read_two_words

abbrev pub RefusingMeetsDemand3 : Type 0
RefusingMeetsDemand3 = (why : Refusal) → Damage (RefusesEveryCall why)

-- ---- "One with a fixed reply dies on two reads."

abbrev pub FixedReply : List ℕ → Slave
FixedReply bytes call answer =
    (answer.outcome ≡ Reply (length bytes)) × (answer.reply ≡ over bytes call.reply) × (answer.image ≡ call.image)

-- its answers to the two reads do not both show their word
abbrev pub FixedReplyDies : Type 0
FixedReplyDies = (bytes : List ℕ) (a b : Answer) → FixedReply bytes read_word_1 a → FixedReply bytes read_word_2 b
    → ReadShows (Gives read_word_1 a) → ReadShows (Gives read_word_2 b) → ⊥

-- ---- "One that echoes writes and stores nothing dies on demand 2's image."

abbrev pub EchoesAlone : Slave
EchoesAlone call answer =
    (answer.outcome ≡ Reply (length call.frame)) × (answer.reply ≡ over call.frame call.reply)
    × (answer.image ≡ call.image)

abbrev pub EchoDies : Type 0
EchoDies = DiesOn WriteSetsExactly EchoesAlone write_word_1

-- ---- "One that reports an invented reply length dies on the frame table."

abbrev pub TellsLength : ℕ → Slave
TellsLength n call answer = answer.outcome ≡ Reply n

abbrev pub InventedLengthDies : Type 0
InventedLengthDies = (n : ℕ) → n ≢ reply_length Read Word 2 → DiesOn Untouched (TellsLength n) read_two_words
