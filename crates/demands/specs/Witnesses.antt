-- Calls that are worked out, in one table, which proofs/Witnesses.antt proves: for each line of the answer table, for each function
-- accepted in each counting, and for each kind of damage. So no law speaks of nothing.
-- Assumes nothing.
use Rattle.std.specs.Prelude.{List, [], ◌∷◌, ◌++◌, ℕ, replicate}
use Rattle.check_word.specs.Line.{Damaged, ExactlyTwo, OddInNumber, InsideWindow, differ_at}
use Rattle.areas.specs.declared.Access.TheVariants.{ReadWrite}
use Rattle.areas.specs.declared.Area.{Area}
use Rattle.frames.specs.declared.Code.TheVariants as Code
use Rattle.slave.specs.declared.Counting.TheVariants.{ModBus, JBus}
use Rattle.slave.specs.declared.State.TheVariants.{Ready, NotReady, AtTheKeyboard}
use Rattle.slave.specs.declared.Refusal.TheVariants as Refusal
use Rattle.slave.specs.declared.Silence.TheVariants as Silence
use Rattle.slave.specs.declared.Outcome.TheVariants.{Refused, Silent}
use Rattle.slave.specs.Examples.{area, areas, start_0}
use Rattle.demands.specs.Terms.{with_image}
use Rattle.demands.specs.Bench.{words, image, room, calling, station_with, bench, Told, Excepted, Replied, two_words, read_three_bits, read_two_words, read_7_and_8, write_word_1, write_7_and_8, write_three_bits}

-- areas that do not ascend
abbrev pub descending : List Area
descending = area 8 8 ReadWrite ∷ area 0 8 ReadWrite ∷ []

-- a right frame of 256 bytes; its check word is D39D hex
abbrev pub longest_frame : List ℕ
longest_frame = replicate 254 0x14 ++ 0x9d ∷ 0xd3 ∷ []

-- its first line bit and its last are flipped
abbrev pub longest_received : List ℕ
longest_received = 0x15 ∷ replicate 253 0x14 ++ 0x9d ∷ 0x53 ∷ []

-- a right frame of 4 bytes, and the sixteen line bits of its check word flipped
abbrev pub shortest_frame : List ℕ
shortest_frame = 0x14 ∷ 0x07 ∷ 0x4f ∷ 0x72 ∷ []

abbrev pub shortest_received : List ℕ
shortest_received = 0x14 ∷ 0x07 ∷ 0xb0 ∷ 0x8d ∷ []

-- one bit of each of the first three bytes of `two_words` flipped
abbrev pub three_flipped : List ℕ
three_flipped = 0x15 ∷ 0x13 ∷ 0x80 ∷ 0x01 ∷ 0x00 ∷ 0x02 ∷ 0x97 ∷ 0x0e ∷ []

pub record Witnesses : Type 0 where
  -- ---- the fifteen lines
  pub line_1 : Told (calling (station_with 0 ModBus Ready) areas image (room 256) two_words) (Refused Refusal.OwnAddress)
  pub line_2 : Told (calling (station_with 20 ModBus Ready) areas [] (room 256) two_words) (Refused Refusal.Image)
  pub line_3 : Told (calling (station_with 20 ModBus Ready) descending image (room 256) two_words) (Refused Refusal.Areas)
  pub line_4 : Told (calling (station_with 20 ModBus Ready) areas image (room 255) two_words) (Refused Refusal.ReplyBuffer)
  pub line_10 : Told (bench ModBus Ready (0x14 ∷ 0x03 ∷ 0x4e ∷ [])) (Silent Silence.FrameLength)
  pub line_11 : Told (bench ModBus Ready (0x14 ∷ 0x03 ∷ 0x00 ∷ 0x01 ∷ 0x00 ∷ 0x02 ∷ 0x97 ∷ 0x0f ∷ [])) (Silent Silence.CheckWord)
  pub line_12 : Told (bench ModBus Ready (0x15 ∷ 0x03 ∷ 0x00 ∷ 0x01 ∷ 0x00 ∷ 0x02 ∷ 0x96 ∷ 0xdf ∷ [])) (Silent Silence.AnotherStation)
  pub line_13 : Told (bench ModBus AtTheKeyboard two_words) (Silent Silence.AtTheKeyboard)
  pub line_e4 : Excepted (bench ModBus NotReady two_words) Code.NotReady (0x14 ∷ 0x83 ∷ 0x04 ∷ 0x51 ∷ 0x37 ∷ [])
  pub line_e1 : Excepted (bench ModBus Ready shortest_frame) Code.Function (0x14 ∷ 0x87 ∷ 0x01 ∷ 0x93 ∷ 0xf4 ∷ [])
  -- 83 stays 83
  pub function_83 : Excepted (bench ModBus Ready (0x14 ∷ 0x83 ∷ 0x4f ∷ 0x11 ∷ [])) Code.Function
      (0x14 ∷ 0x83 ∷ 0x01 ∷ 0x91 ∷ 0x34 ∷ [])
  pub line_14 : Told (bench ModBus Ready (0x14 ∷ 0x03 ∷ 0x4e ∷ 0xb1 ∷ [])) (Silent Silence.RequestLength)
  pub line_15 : Told (bench ModBus Ready (0x14 ∷ 0x03 ∷ 0x00 ∷ 0x01 ∷ 0x00 ∷ 0x00 ∷ 0x16 ∷ 0xcf ∷ [])) (Silent Silence.NoQuantity)
  -- 81 words
  pub line_e3 : Excepted (bench ModBus Ready (0x14 ∷ 0x03 ∷ 0x00 ∷ 0x00 ∷ 0x00 ∷ 0x51 ∷ 0x86 ∷ 0xf3 ∷ [])) Code.Value
      (0x14 ∷ 0x83 ∷ 0x03 ∷ 0x10 ∷ 0xf5 ∷ [])
  -- words 15 and 16
  pub line_e2 : Excepted (bench ModBus Ready (0x14 ∷ 0x03 ∷ 0x00 ∷ 0x0f ∷ 0x00 ∷ 0x02 ∷ 0xf6 ∷ 0xcd ∷ [])) Code.Address
      (0x14 ∷ 0x83 ∷ 0x02 ∷ 0xd1 ∷ 0x35 ∷ [])
  -- word 8 is written
  pub line_e8 : Excepted (bench ModBus Ready (0x14 ∷ 0x06 ∷ 0x00 ∷ 0x08 ∷ 0x00 ∷ 0x01 ∷ 0xcb ∷ 0x0d ∷ [])) Code.ReadOnly
      (0x14 ∷ 0x86 ∷ 0x08 ∷ 0x52 ∷ 0x62 ∷ [])
  -- ---- the eight functions, accepted in both countings
  -- bits 24 to 26 are read
  pub function_01_mod_bus : Replied read_three_bits
      (0x14 ∷ 0x01 ∷ 0x01 ∷ 0x03 ∷ 0x15 ∷ 0x85 ∷ []) image
  pub function_01_j_bus : Replied (bench JBus Ready (0x14 ∷ 0x01 ∷ 0x00 ∷ 0x19 ∷ 0x00 ∷ 0x03 ∷ 0xaf ∷ 0x09 ∷ []))
      (0x14 ∷ 0x01 ∷ 0x01 ∷ 0x03 ∷ 0x15 ∷ 0x85 ∷ []) image
  pub function_02_mod_bus : Replied (bench ModBus Ready (0x14 ∷ 0x02 ∷ 0x00 ∷ 0x18 ∷ 0x00 ∷ 0x03 ∷ 0xba ∷ 0xc9 ∷ []))
      (0x14 ∷ 0x02 ∷ 0x01 ∷ 0x03 ∷ 0xe5 ∷ 0x85 ∷ []) image
  pub function_02_j_bus : Replied (bench JBus Ready (0x14 ∷ 0x02 ∷ 0x00 ∷ 0x19 ∷ 0x00 ∷ 0x03 ∷ 0xeb ∷ 0x09 ∷ []))
      (0x14 ∷ 0x02 ∷ 0x01 ∷ 0x03 ∷ 0xe5 ∷ 0x85 ∷ []) image
  -- words 1 and 2 are read
  pub function_03_mod_bus : Replied read_two_words
      (0x14 ∷ 0x03 ∷ 0x04 ∷ 0x03 ∷ 0xe8 ∷ 0x01 ∷ 0xf4 ∷ 0x3e ∷ 0x95 ∷ []) image
  pub function_03_j_bus : Replied (bench JBus Ready (0x14 ∷ 0x03 ∷ 0x00 ∷ 0x02 ∷ 0x00 ∷ 0x02 ∷ 0x67 ∷ 0x0e ∷ []))
      (0x14 ∷ 0x03 ∷ 0x04 ∷ 0x03 ∷ 0xe8 ∷ 0x01 ∷ 0xf4 ∷ 0x3e ∷ 0x95 ∷ []) image
  pub function_04_mod_bus : Replied (bench ModBus Ready (0x14 ∷ 0x04 ∷ 0x00 ∷ 0x01 ∷ 0x00 ∷ 0x02 ∷ 0x22 ∷ 0xce ∷ []))
      (0x14 ∷ 0x04 ∷ 0x04 ∷ 0x03 ∷ 0xe8 ∷ 0x01 ∷ 0xf4 ∷ 0x3f ∷ 0x22 ∷ []) image
  pub function_04_j_bus : Replied (bench JBus Ready (0x14 ∷ 0x04 ∷ 0x00 ∷ 0x02 ∷ 0x00 ∷ 0x02 ∷ 0xd2 ∷ 0xce ∷ []))
      (0x14 ∷ 0x04 ∷ 0x04 ∷ 0x03 ∷ 0xe8 ∷ 0x01 ∷ 0xf4 ∷ 0x3f ∷ 0x22 ∷ []) image
  -- bit 24 is turned off
  pub function_05_mod_bus : Replied (bench ModBus Ready (0x14 ∷ 0x05 ∷ 0x00 ∷ 0x18 ∷ 0x00 ∷ 0x00 ∷ 0x4f ∷ 0x08 ∷ []))
      (0x14 ∷ 0x05 ∷ 0x00 ∷ 0x18 ∷ 0x00 ∷ 0x00 ∷ 0x4f ∷ 0x08 ∷ []) (words 744 500)
  pub function_05_j_bus : Replied (bench JBus Ready (0x14 ∷ 0x05 ∷ 0x00 ∷ 0x19 ∷ 0x00 ∷ 0x00 ∷ 0x1e ∷ 0xc8 ∷ []))
      (0x14 ∷ 0x05 ∷ 0x00 ∷ 0x19 ∷ 0x00 ∷ 0x00 ∷ 0x1e ∷ 0xc8 ∷ []) (words 744 500)
  -- word 1 is set
  pub function_06_mod_bus : Replied write_word_1
      (0x14 ∷ 0x06 ∷ 0x00 ∷ 0x01 ∷ 0x12 ∷ 0x34 ∷ 0xd7 ∷ 0xb8 ∷ []) (words 0x1234 500)
  pub function_06_j_bus : Replied (bench JBus Ready (0x14 ∷ 0x06 ∷ 0x00 ∷ 0x02 ∷ 0x12 ∷ 0x34 ∷ 0x27 ∷ 0xb8 ∷ []))
      (0x14 ∷ 0x06 ∷ 0x00 ∷ 0x02 ∷ 0x12 ∷ 0x34 ∷ 0x27 ∷ 0xb8 ∷ []) (words 0x1234 500)
  -- bits 24 to 26 are set; the spare bits of the data are on
  pub function_0f_mod_bus : Replied write_three_bits
      (0x14 ∷ 0x0f ∷ 0x00 ∷ 0x18 ∷ 0x00 ∷ 0x03 ∷ 0x97 ∷ 0x08 ∷ []) (words 1256 500)
  pub function_0f_j_bus : Replied (bench JBus Ready (0x14 ∷ 0x0f ∷ 0x00 ∷ 0x19 ∷ 0x00 ∷ 0x03 ∷ 0x01 ∷ 0xfc ∷ 0x53 ∷ 0xe7 ∷ []))
      (0x14 ∷ 0x0f ∷ 0x00 ∷ 0x19 ∷ 0x00 ∷ 0x03 ∷ 0xc6 ∷ 0xc8 ∷ []) (words 1256 500)
  -- words 1 and 2 are set
  pub function_10_mod_bus : Replied
      (bench ModBus Ready (0x14 ∷ 0x10 ∷ 0x00 ∷ 0x01 ∷ 0x00 ∷ 0x02 ∷ 0x04 ∷ 0x12 ∷ 0x34 ∷ 0x56 ∷ 0x78 ∷ 0x0c ∷ 0x5b ∷ []))
      (0x14 ∷ 0x10 ∷ 0x00 ∷ 0x01 ∷ 0x00 ∷ 0x02 ∷ 0x12 ∷ 0xcd ∷ []) (words 0x1234 0x5678)
  pub function_10_j_bus : Replied
      (bench JBus Ready (0x14 ∷ 0x10 ∷ 0x00 ∷ 0x02 ∷ 0x00 ∷ 0x02 ∷ 0x04 ∷ 0x12 ∷ 0x34 ∷ 0x56 ∷ 0x78 ∷ 0x4c ∷ 0x4e ∷ []))
      (0x14 ∷ 0x10 ∷ 0x00 ∷ 0x02 ∷ 0x00 ∷ 0x02 ∷ 0xe2 ∷ 0xcd ∷ []) (words 0x1234 0x5678)
  -- ---- J-Bus start 0; words 7 and 8, of two areas that touch, read together and written together
  pub j_bus_start_0 : Excepted (bench JBus Ready start_0) Code.Address (0x14 ∷ 0x83 ∷ 0x02 ∷ 0xd1 ∷ 0x35 ∷ [])
  pub words_7_and_8_read : Replied read_7_and_8 (0x14 ∷ 0x03 ∷ 0x04 ∷ 0x00 ∷ 0x00 ∷ 0x00 ∷ 0x00 ∷ 0xbe ∷ 0xf2 ∷ []) image
  pub words_7_and_8_kept : Excepted write_7_and_8 Code.ReadOnly (0x14 ∷ 0x90 ∷ 0x08 ∷ 0x5c ∷ 0x02 ∷ [])
  -- ---- an image that agrees on bits 24 to 26, and not on the rest of words 1 and 2, gets the same reply
  pub another_image : Replied (with_image (words 0x0300 0) read_three_bits)
      (0x14 ∷ 0x01 ∷ 0x01 ∷ 0x03 ∷ 0x15 ∷ 0x85 ∷ []) (words 0x0300 0)
  -- ---- the three kinds of damage
  pub two_flips : Damaged longest_frame longest_received × ExactlyTwo (differ_at longest_frame longest_received)
      × Told (bench ModBus Ready longest_received) (Silent Silence.CheckWord)
  pub three_flips : Damaged two_words three_flipped × OddInNumber (differ_at two_words three_flipped)
      × Told (bench ModBus Ready three_flipped) (Silent Silence.CheckWord)
  pub sixteen_flips : Damaged shortest_frame shortest_received × InsideWindow (differ_at shortest_frame shortest_received)
      × Told (bench ModBus Ready shortest_received) (Silent Silence.CheckWord)
