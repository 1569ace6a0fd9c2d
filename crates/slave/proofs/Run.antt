-- The words that a run of bits addresses are a run of words, and a verdict on that run is one on them.
-- Assumes nothing.
use mathlib.Core.List.{List}
use Prim.Native.Nat.{ℕ, ◌*◌, ◌/◌, ◌≤◌}
use native.Mathlib.Decide.{dec_le}
use native.Mathlib.Omega.{arith}
use Rattle.registers.specs.Memory.{word_bits}
use Rattle.areas.specs.Holding.{Among}
use Rattle.areas.specs.Verdicts.{Judged}
use Rattle.areas.specs.declared.Area.{Area}
use Rattle.areas.specs.declared.Verdict.{Verdict}
use Rattle.areas.specs.declared.Verdict.TheVariants.{SomeInNoArea, SomeReadOnly, AllReadWrite}
use Rattle.frames.specs.declared.Width.{Width}
use Rattle.frames.specs.declared.Width.TheVariants.{Bit, Word}
use Rattle.slave.specs.Conditions.{AddressedBy}
use Rattle.slave.specs.Deciding.{SomeAddressed, JudgedBy, words_of, words_in}

-- each word of the run has a bit: its lowest one, or the first of all
pub words_addressed : (first count : ℕ) → 1 ≤ count → (word : ℕ) → Among (first / word_bits) (words_of first count) word
    → AddressedBy Bit first count word
words_addressed first count some word h =
    elim (dec_le first (word * word_bits)) [
      | yes m ↦ (word * word_bits, (m, omega arith), omega arith)
      | no m ↦ (first, (omega arith, omega arith), omega arith)
    ]

-- and no other word has
pub addressed_words : (first count word : ℕ) → AddressedBy Bit first count word → Among (first / word_bits) (words_of first count) word
addressed_words first count word (bit, h, e) = (omega arith, omega arith)

some_of : (A B Such : ℕ → Type 0) → ((word : ℕ) → A word → B word) → SomeAddressed A Such → SomeAddressed B Such
some_of A B Such to (word, a, such) = (word, to word a, such)

-- a verdict on a run is one on the words that it consists of
judged_over : (areas : List Area) (first n : ℕ) (Addressed : ℕ → Type 0)
    → ((word : ℕ) → Among first n word → Addressed word) → ((word : ℕ) → Addressed word → Among first n word)
    → (verdict : Verdict) → Judged areas first n verdict → JudgedBy areas Addressed verdict
judged_over areas first n Addressed to back SomeInNoArea j = some_of (Among first n) Addressed _ to j
judged_over areas first n Addressed to back SomeReadOnly j =
    (λ s. j.0 (some_of Addressed (Among first n) _ back s), some_of (Among first n) Addressed _ to j.1)
judged_over areas first n Addressed to back AllReadWrite j =
    (λ s. j.0 (some_of Addressed (Among first n) _ back s), λ s. j.1 (some_of Addressed (Among first n) _ back s))

pub judged_words : (areas : List Area) (width : Width) (first count : ℕ) → 1 ≤ count → (verdict : Verdict)
    → Judged areas (words_in width first count).first (words_in width first count).count verdict
    → JudgedBy areas (AddressedBy width first count) verdict
judged_words areas Bit first count some =
    judged_over areas (first / word_bits) (words_of first count) (AddressedBy Bit first count)
    (words_addressed first count some) (addressed_words first count)
judged_words areas Word first count some =
    judged_over areas first count (AddressedBy Word first count) (λ word h. h) (λ word h. h)
