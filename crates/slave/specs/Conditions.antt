-- What the lines of the answer table ask of a station, its areas and a frame.
-- Assumes nothing.
use Rattle.std.specs.Prelude.{◌≡◌, ◌⊎◌, ◌≢◌, List, Option, Some, None, ℕ, ◌-◌, ◌/◌, ◌<◌, length}
use Rattle.registers.specs.Memory.{word_bits}
use Rattle.areas.specs.Holding.{Among}
use Rattle.areas.specs.Rules.{RulesKept}
use Rattle.areas.specs.declared.Area.{Area}
use Rattle.frames.specs.declared.Act.{Act}
use Rattle.frames.specs.declared.Act.TheVariants.{Read, WriteOne, WriteRun}
use Rattle.frames.specs.declared.Width.{Width}
use Rattle.frames.specs.declared.Width.TheVariants.{Bit, Word}
use Rattle.frames.specs.Fields.{station_field, function_field, start_field, quantity_field, value_field, byte_count_field}
use Rattle.frames.specs.Functions.{function_of}
use Rattle.frames.specs.Limits.{quantity, most, bytes_for, request_length, BitValue}
use Rattle.slave.specs.declared.Station.{Station}
use Rattle.slave.specs.declared.Counting.{Counting}
use Rattle.slave.specs.declared.Counting.TheVariants.{ModBus, JBus}

-- ---- the call

-- the most words of an image
abbrev pub most_image_words : ℕ
most_image_words = 4095

-- the list of areas breaks a rule (areas, `Rules`)
abbrev pub BreaksARule : List Area → ℕ → Type 0
BreaksARule areas words = RulesKept words areas → ⊥

-- the fewest bytes of a reply buffer
abbrev pub least_room : ℕ
least_room = 256

-- ---- the frame

-- another station's address; 0 is always another's
abbrev pub AnotherStation : Station → List ℕ → Type 0
AnotherStation station frame = (station_field frame ≡ 0) ⊎ (station_field frame ≢ station.own)

-- the function is not in the table
abbrev pub NoFunction : List ℕ → Type 0
NoFunction frame = function_of (function_field frame) ≡ None

-- the frame's function is in the table, and `Such` holds of what it does and to what
abbrev pub OfFound : Option (Act × Width) → (Act → Width → Type 0) → Type 0
OfFound (Some (act, width)) Such = Such act width
OfFound None Such = ⊥

abbrev pub OfFunction : List ℕ → (Act → Width → Type 0) → Type 0
OfFunction frame = OfFound (function_of (function_field frame))

-- length is wrong for the function
abbrev pub WrongLength : List ℕ → Type 0
WrongLength frame = OfFunction frame (λ act width. length frame ≢ request_length act frame)

-- quantity is 0
abbrev pub QuantityZero : List ℕ → Type 0
QuantityZero frame = OfFunction frame (λ act width. quantity act frame ≡ 0)

-- quantity over the most; byte count not the quantity's; bit value neither FF00 nor 0000
abbrev pub OutOfLimits : List ℕ → Act → Width → Type 0
OutOfLimits frame act width =
    (most act width < quantity act frame)
    ⊎ ((act ≡ WriteRun) × (byte_count_field frame ≢ bytes_for width (quantity_field frame)))
    ⊎ ((act ≡ WriteOne) × (width ≡ Bit) × (BitValue (value_field frame) → ⊥))

-- a write
abbrev pub Writes : List ℕ → Type 0
Writes frame = OfFunction frame (λ act width. act ≢ Read)

-- ---- addresses

-- MOD-Bus: the start address in the frame is the address counted from 0. J-Bus: it is one higher (`0 - 1` is 0) ..
abbrev pub counted_from0 : Counting → ℕ → ℕ
counted_from0 ModBus start = start
counted_from0 JBus start = start - 1

abbrev pub first_addressed : Station → List ℕ → ℕ
first_addressed station frame = counted_from0 station.counting (start_field frame)

-- .. so that J-Bus start 0 names nothing
abbrev pub NamesNothing : Station → List ℕ → Type 0
NamesNothing station frame = (station.counting ≡ JBus) × (start_field frame ≡ 0)

-- a word is addressed by a run of bits, if one of them is its, and by a run of words, if it is one of them (no address wraps)
abbrev pub AddressedBy : Width → ℕ → ℕ → ℕ → Type 0
AddressedBy Bit first count word = (bit : ℕ) × Among first count bit × (bit / word_bits ≡ word)
AddressedBy Word first count word = Among first count word

-- some addressed word is such
abbrev pub SomeAddressedWord : Station → List ℕ → (ℕ → Type 0) → Type 0
SomeAddressedWord station frame Such = OfFunction frame
    (λ act width. (word : ℕ) × AddressedBy width (first_addressed station frame) (quantity act frame) word × Such word)
