-- Frames built and read, most of them the papers', in one table: proofs/Examples.antt proves it. The lent buffer has 256 bytes, each
-- AA hex.
-- Assumes nothing.
use Rattle.std.specs.Prelude.{List, [], ◌∷◌, Result, Ok, Err, ℕ, length, replicate}
use Rattle.check_word.specs.Line.{Damaged}
use Rattle.frames.specs.declared.Code.TheVariants.{ReadOnly}
use Rattle.master.specs.declared.Function.{Function}
use Rattle.master.specs.declared.Function.TheVariants.{ReadBits01, ReadBits02, ReadWords03, ReadWords04, WriteBit05, WriteWord06, WriteBits0F, WriteWords10}
use Rattle.master.specs.declared.Request.{Request}
use Rattle.master.specs.declared.Refusal.{Refusal}
use Rattle.master.specs.declared.Reading.{Reading}
use Rattle.master.specs.declared.Reading.TheVariants.{Data, Written, Exception}
use Rattle.master.specs.Refusals.{least_room}
use Rattle.master.specs.Building.{over, Build}
use Rattle.master.specs.Reading.{ReadReply}

abbrev pub room : List ℕ
room = replicate least_room 0xaa

abbrev pub asking : ℕ → Function → ℕ → ℕ → Request
asking station function start operand =
    record { station = station; function = function; start = start; operand = operand }

-- a request of these bytes is built
abbrev pub Builds : Request → List ℕ → List ℕ → Type 0
Builds request carried bytes = Build request carried room (Ok (length bytes)) (over bytes room)

-- this is answered, and the buffer then starts with these bytes
abbrev pub Reads : Request → List ℕ → Result Reading Refusal → List ℕ → Type 0
Reads request reply answer bytes = ReadReply request reply room answer (over bytes room)

-- the requests of the replies below
abbrev pub four_bits : Request
four_bits = asking 10 ReadBits01 0x0370 4

abbrev pub three_bits : Request
three_bits = asking 20 ReadBits01 0x0018 3

abbrev pub two_words : Request
two_words = asking 20 ReadWords03 1 2

abbrev pub bit_on : Request
bit_on = asking 20 WriteBit05 0x0018 0xff00

abbrev pub word_8 : Request
word_8 = asking 20 WriteWord06 8 1

abbrev pub a_weight : Request
a_weight = asking 1 WriteWords10 0x00fb 2

-- a reply, and the same with its first bit flipped
abbrev pub the_two_words : List ℕ
the_two_words = 0x14 ∷ 0x03 ∷ 0x04 ∷ 0x03 ∷ 0xe8 ∷ 0x01 ∷ 0xf4 ∷ 0x3e ∷ 0x95 ∷ []

abbrev pub one_flipped : List ℕ
one_flipped = 0x15 ∷ 0x03 ∷ 0x04 ∷ 0x03 ∷ 0xe8 ∷ 0x01 ∷ 0xf4 ∷ 0x3e ∷ 0x95 ∷ []

pub record Examples : Type 0 where
  -- ---- built, one of each function: the manual, sections 3.1 ..
  pub built_01 : Builds four_bits [] (0x0a ∷ 0x01 ∷ 0x03 ∷ 0x70 ∷ 0x00 ∷ 0x04 ∷ 0x3d ∷ 0x2d ∷ [])
  pub built_02 : Builds (asking 10 ReadBits02 0x0370 4) [] (0x0a ∷ 0x02 ∷ 0x03 ∷ 0x70 ∷ 0x00 ∷ 0x04 ∷ 0x79 ∷ 0x2d ∷ [])
  -- .. 2.8 (04 as 03) ..
  pub built_03 : Builds two_words [] (0x14 ∷ 0x03 ∷ 0x00 ∷ 0x01 ∷ 0x00 ∷ 0x02 ∷ 0x97 ∷ 0x0e ∷ [])
  pub built_04 : Builds (asking 20 ReadWords04 1 2) [] (0x14 ∷ 0x04 ∷ 0x00 ∷ 0x01 ∷ 0x00 ∷ 0x02 ∷ 0x22 ∷ 0xce ∷ [])
  pub built_05 : Builds bit_on [] (0x14 ∷ 0x05 ∷ 0x00 ∷ 0x18 ∷ 0xff ∷ 0x00 ∷ 0x0e ∷ 0xf8 ∷ [])
  -- .. and 4.3
  pub built_06 : Builds (asking 1 WriteWord06 0x00eb 1) [] (0x01 ∷ 0x06 ∷ 0x00 ∷ 0xeb ∷ 0x00 ∷ 0x01 ∷ 0x38 ∷ 0x3e ∷ [])
  pub built_10 : Builds a_weight (0x80 ∷ 0x00 ∷ 0x44 ∷ 0x09 ∷ [])
      (0x01 ∷ 0x10 ∷ 0x00 ∷ 0xfb ∷ 0x00 ∷ 0x02 ∷ 0x04 ∷ 0x80 ∷ 0x00 ∷ 0x44 ∷ 0x09 ∷ 0x67 ∷ 0x9e ∷ [])
  -- three bits, all on; the byte's other five are on, too, and built as 0
  pub built_0f : Builds (asking 20 WriteBits0F 0x0018 3) (0xff ∷ [])
      (0x14 ∷ 0x0f ∷ 0x00 ∷ 0x18 ∷ 0x00 ∷ 0x03 ∷ 0x01 ∷ 0x07 ∷ 0x2f ∷ 0xa4 ∷ [])
  -- ---- read: bits, words, a bit that was written, words that were written, an exception
  pub read_01 : Reads four_bits (0x0a ∷ 0x01 ∷ 0x01 ∷ 0x0f ∷ 0x13 ∷ 0xa8 ∷ []) (Ok (Data 1)) (0x0f ∷ [])
  pub read_03 : Reads two_words the_two_words (Ok (Data 4)) (0x03 ∷ 0xe8 ∷ 0x01 ∷ 0xf4 ∷ [])
  pub read_05 : Reads bit_on (0x14 ∷ 0x05 ∷ 0x00 ∷ 0x18 ∷ 0xff ∷ 0x00 ∷ 0x0e ∷ 0xf8 ∷ []) (Ok Written) []
  pub read_10 : Reads a_weight (0x01 ∷ 0x10 ∷ 0x00 ∷ 0xfb ∷ 0x00 ∷ 0x02 ∷ 0x30 ∷ 0x39 ∷ []) (Ok Written) []
  pub exception : Reads word_8 (0x14 ∷ 0x86 ∷ 0x08 ∷ 0x52 ∷ 0x62 ∷ []) (Ok (Exception ReadOnly)) []
  -- ---- refused: 81 words; a reply with one bit flipped on the line; code 5; three bits with a fourth one on
  pub refused_70 : Reads (asking 20 ReadWords03 1 81) [] (Err Refusal.Request) []
  pub refused_71 : Damaged the_two_words one_flipped × Reads two_words one_flipped (Err Refusal.CheckWord) []
  pub code_5 : Reads word_8 (0x14 ∷ 0x86 ∷ 0x05 ∷ 0x93 ∷ 0xa7 ∷ []) (Err Refusal.Reply) []
  pub spare_bit : Reads three_bits (0x14 ∷ 0x01 ∷ 0x01 ∷ 0x0b ∷ 0x14 ∷ 0x43 ∷ []) (Err Refusal.Reply) []
