-- The six slips of document 01 ("Slips the old code made or a new one might"), each held to a demand at a call of `Bench`: it
-- answers, and its answers break the demand. Proved under the same names in proofs/Slips.antt.
-- Assumes nothing.
use Rattle.std.specs.Prelude.{◌≡◌, ◌≢◌, List, ℕ, ◌+◌, ◌-◌, ◌*◌, ◌/◌, ◌%◌}
use Rattle.registers.specs.Memory.{word_bits, byte_bits, bit, image_word, from}
use Rattle.registers.specs.Packing.{packed_bit, packed_word, BitsPacked}
use Rattle.registers.specs.Storing.{BitsStored, WordsStored}
use Rattle.areas.specs.Holding.{SomeArea, Holds, Addressable}
use Rattle.frames.specs.declared.Code.{Code}
use Rattle.frames.specs.Fields.{station_field, quantity_field, byte_count_field, data_field}
use Rattle.slave.specs.declared.Silence.TheVariants.{AnotherStation}
use Rattle.slave.specs.declared.Outcome.TheVariants.{Silent, Exception, Reply}
use Rattle.slave.specs.Answer.{Call}
use Rattle.demands.specs.Terms.{Slave, first_of, Unchanged, data_of}
use Rattle.demands.specs.Demands.{Untouched, FirstLineDecides, ReadShows, WriteSetsExactly, Damage}
use Rattle.demands.specs.Duds.{DiesOn}
use Rattle.demands.specs.Bench.{read_7_and_8, write_7_and_8, read_bit_21, write_three_bits, read_3_to_6, damaged_to_another}

-- the last address of a run
abbrev pub last_of : Call → ℕ
last_of call = first_of call + quantity_field call.frame - 1

-- "Storing words while still checking the later ones.": the first is stored, and then an exception given
abbrev pub StoresWhileChecking : Slave
StoresWhileChecking call answer =
    ((code : Code) × (answer.outcome ≡ Exception code))
    × WordsStored (first_of call) 1 (packed_word (data_field call.frame)) call.image answer.image

abbrev pub StoringWhileCheckingDies : Type 0
StoringWhileCheckingDies = DiesOn Untouched StoresWhileChecking write_7_and_8

-- "Testing only the first and the last word of a request against the areas, with a hole between." (of a request on words)
abbrev pub TestsFirstAndLast : Slave
TestsFirstAndLast call answer = Addressable call.areas (first_of call) → Addressable call.areas (last_of call)
    → (n : ℕ) × (answer.outcome ≡ Reply n)

abbrev pub TestingFirstAndLastDies : Type 0
TestingFirstAndLastDies = DiesOn FirstLineDecides TestsFirstAndLast read_3_to_6

-- "Counting bits from the high end of a word because words travel high byte first."
abbrev pub bit_from_the_high_end : List ℕ → ℕ → ℕ
bit_from_the_high_end image k = bit (image_word image (k / word_bits)) (word_bits - 1 - k % word_bits)

abbrev pub CountsFromTheHighEnd : Slave
CountsFromTheHighEnd call answer =
    (n : ℕ) × (answer.outcome ≡ Reply n)
    × BitsPacked (quantity_field call.frame) (from (first_of call) (bit_from_the_high_end call.image)) (data_of n answer.reply)

abbrev pub CountingFromTheHighEndDies : Type 0
CountingFromTheHighEndDies = DiesOn ReadShows CountsFromTheHighEnd read_bit_21

-- "Refusing a request because it starts in one area and ends in another that touches it." (of a request on words)
abbrev pub AsksForOneArea : Slave
AsksForOneArea call answer =
    (SomeArea call.areas (λ area. Holds area (first_of call) × Holds area (last_of call)) → ⊥)
    → (n : ℕ) → answer.outcome ≢ Reply n

abbrev pub AskingForOneAreaDies : Type 0
AskingForOneAreaDies = DiesOn FirstLineDecides AsksForOneArea read_7_and_8

-- "Writing all eight bits of a last byte that carries three."
abbrev pub WritesWholeBytes : Slave
WritesWholeBytes call answer =
    (n : ℕ) × (answer.outcome ≡ Reply n)
    × BitsStored (first_of call) (byte_count_field call.frame * byte_bits) (packed_bit (data_field call.frame))
    call.image answer.image

abbrev pub WritingWholeBytesDies : Type 0
WritingWholeBytesDies = DiesOn WriteSetsExactly WritesWholeBytes write_three_bits

-- "Looking at the address before the check word, so that a damaged frame is told from another's."
abbrev pub LooksAtTheAddressFirst : Slave
LooksAtTheAddressFirst call answer =
    station_field call.frame ≢ call.station.own → (answer.outcome ≡ Silent AnotherStation) × Unchanged call answer

abbrev pub AddressFirstDies : Type 0
AddressFirstDies = DiesOn Damage LooksAtTheAddressFirst damaged_to_another
