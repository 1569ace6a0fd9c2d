-- The calls that witnesses, duds and slips name, most of them of the bench station (document 01, "Bench program"): station 20 with
-- 16 words, of which 0 to 7 may be written and 8 to 15 only read. The reply buffer has 256 bytes, each AA hex before the call.
-- Assumes nothing.
use Rattle.std.specs.Prelude.{List, [], ◌∷◌, ℕ, replicate, length}
use Rattle.areas.specs.declared.Access.TheVariants.{ReadWrite}
use Rattle.areas.specs.declared.Area.{Area}
use Rattle.frames.specs.declared.Code.{Code}
use Rattle.slave.specs.declared.Station.{Station}
use Rattle.slave.specs.declared.Counting.{Counting}
use Rattle.slave.specs.declared.Counting.TheVariants.{ModBus}
use Rattle.slave.specs.declared.State.{State}
use Rattle.slave.specs.declared.State.TheVariants.{Ready}
use Rattle.slave.specs.declared.Outcome.{Outcome}
use Rattle.slave.specs.declared.Outcome.TheVariants.{Exception, Reply}
use Rattle.slave.specs.Conditions.{least_room}
use Rattle.slave.specs.Examples.{area, areas}
use Rattle.slave.specs.Answer.{Call, over, Answers}

-- words 1 and 2 are these, the others 0
abbrev pub words : ℕ → ℕ → List ℕ
words one two = 0 ∷ one ∷ two ∷ replicate 13 0

abbrev pub image : List ℕ
image = words 1000 500

abbrev pub room : ℕ → List ℕ
room n = replicate n 0xaa

abbrev pub calling : Station → List Area → List ℕ → List ℕ → List ℕ → Call
calling station areas image reply frame = record {
  station = station;
  areas = areas;
  frame = frame;
  image = image;
  reply = reply;
}

abbrev pub station_with : ℕ → Counting → State → Station
station_with own counting state = record { own = own; counting = counting; state = state }

-- the bench station receives a frame, in this counting and state
abbrev pub bench : Counting → State → List ℕ → Call
bench counting state = calling (station_with 20 counting state) areas image (room least_room)

-- ---- answers

-- a refusal or a silence: nothing is changed
abbrev pub Told : Call → Outcome → Type 0
Told call outcome = Answers call (record { outcome = outcome; image = call.image; reply = call.reply })

-- an exception of these bytes
abbrev pub Excepted : Call → Code → List ℕ → Type 0
Excepted call code bytes =
    Answers call (record { outcome = Exception code; image = call.image; reply = over bytes call.reply })

-- a reply of these bytes, and the image after it
abbrev pub Replied : Call → List ℕ → List ℕ → Type 0
Replied call bytes after =
    Answers call (record { outcome = Reply (length bytes); image = after; reply = over bytes call.reply })

-- ---- calls

-- words 1 and 2 are read
abbrev pub two_words : List ℕ
two_words = 0x14 ∷ 0x03 ∷ 0x00 ∷ 0x01 ∷ 0x00 ∷ 0x02 ∷ 0x97 ∷ 0x0e ∷ []

abbrev pub read_two_words : Call
read_two_words = bench ModBus Ready two_words

-- bits 24 to 26 are read
abbrev pub read_three_bits : Call
read_three_bits = bench ModBus Ready (0x14 ∷ 0x01 ∷ 0x00 ∷ 0x18 ∷ 0x00 ∷ 0x03 ∷ 0xfe ∷ 0xc9 ∷ [])

-- word 1 is read, and word 2
abbrev pub read_word_1 : Call
read_word_1 = bench ModBus Ready (0x14 ∷ 0x03 ∷ 0x00 ∷ 0x01 ∷ 0x00 ∷ 0x01 ∷ 0xd7 ∷ 0x0f ∷ [])

abbrev pub read_word_2 : Call
read_word_2 = bench ModBus Ready (0x14 ∷ 0x03 ∷ 0x00 ∷ 0x02 ∷ 0x00 ∷ 0x01 ∷ 0x27 ∷ 0x0f ∷ [])

-- words 7 and 8 are read, of two areas that touch
abbrev pub read_7_and_8 : Call
read_7_and_8 = bench ModBus Ready (0x14 ∷ 0x03 ∷ 0x00 ∷ 0x07 ∷ 0x00 ∷ 0x02 ∷ 0x77 ∷ 0x0f ∷ [])

-- word 1 is set to 1234 hex
abbrev pub write_word_1 : Call
write_word_1 = bench ModBus Ready (0x14 ∷ 0x06 ∷ 0x00 ∷ 0x01 ∷ 0x12 ∷ 0x34 ∷ 0xd7 ∷ 0xb8 ∷ [])

-- word 7, which may be written, is set to 1, and word 8, which may not, to 2
abbrev pub write_7_and_8 : Call
write_7_and_8 =
    bench ModBus Ready (0x14 ∷ 0x10 ∷ 0x00 ∷ 0x07 ∷ 0x00 ∷ 0x02 ∷ 0x04 ∷ 0x00 ∷ 0x01 ∷ 0x00 ∷ 0x02 ∷ 0x27 ∷ 0x44 ∷ [])

-- bit 21 is read
abbrev pub read_bit_21 : Call
read_bit_21 = bench ModBus Ready (0x14 ∷ 0x01 ∷ 0x00 ∷ 0x15 ∷ 0x00 ∷ 0x01 ∷ 0xee ∷ 0xcb ∷ [])

-- bits 24 to 26 are set to 0, 0 and 1; the spare bits of the byte are 1
abbrev pub write_three_bits : Call
write_three_bits = bench ModBus Ready (0x14 ∷ 0x0f ∷ 0x00 ∷ 0x18 ∷ 0x00 ∷ 0x03 ∷ 0x01 ∷ 0xfc ∷ 0x6e ∷ 0x27 ∷ [])

-- of eight words, 4 and 5 are in no area
abbrev pub holed : List Area
holed = area 0 4 ReadWrite ∷ area 6 2 ReadWrite ∷ []

-- words 3 to 6 are read
abbrev pub read_3_to_6 : Call
read_3_to_6 =
    calling (station_with 20 ModBus Ready) holed (replicate 8 0) (room least_room)
    (0x14 ∷ 0x03 ∷ 0x00 ∷ 0x03 ∷ 0x00 ∷ 0x04 ∷ 0xb6 ∷ 0xcc ∷ [])

-- a request to station 21 in whose check word a bit was flipped
abbrev pub damaged_to_another : Call
damaged_to_another = bench ModBus Ready (0x15 ∷ 0x03 ∷ 0x00 ∷ 0x01 ∷ 0x00 ∷ 0x02 ∷ 0x96 ∷ 0xde ∷ [])
