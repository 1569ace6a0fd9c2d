-- The examples of the papers that are proved of the definitions, in one table: proofs/Examples.antt proves it.
-- Assumes nothing.
use Rattle.std.specs.Prelude.{◌≡◌, List, [], ◌∷◌, ℕ}
use Rattle.check_word.specs.CheckWord.{check_word}
use Rattle.registers.specs.Memory.{bit, image_word, image_bit}
use Rattle.areas.specs.declared.Access.{Access}
use Rattle.areas.specs.declared.Access.TheVariants.{ReadOnly, ReadWrite}
use Rattle.areas.specs.declared.Area.{Area}
use Rattle.frames.specs.declared.Width.TheVariants.{Bit}
use Rattle.frames.specs.Limits.{off}
use Rattle.slave.specs.declared.Station.{Station}
use Rattle.slave.specs.declared.Counting.TheVariants.{JBus}
use Rattle.slave.specs.declared.State.TheVariants.{Ready}
use Rattle.slave.specs.Numbers.{exception}
use Rattle.slave.specs.Conditions.{first_addressed}
use Rattle.slave.specs.Table.{FirstDecides, table}
use Rattle.slave.specs.Answer.{Shown, StoredOne}

-- the first words of the bench station
abbrev pub words : List ℕ
words = 0 ∷ 1000 ∷ 500 ∷ []

abbrev pub area : ℕ → ℕ → Access → Area
area first count access = record { first = first; count = count; access = access }

-- the bench station's areas
abbrev pub areas : List Area
areas = area 0 8 ReadWrite ∷ area 8 8 ReadOnly ∷ []

-- the station, but counting as J-Bus does
abbrev pub station : Station
station = record { own = 20; counting = JBus; state = Ready }

-- two words read from start 0, and from start 1
abbrev pub start_0 : List ℕ
start_0 = 0x14 ∷ 0x03 ∷ 0x00 ∷ 0x00 ∷ 0x00 ∷ 0x02 ∷ 0xc6 ∷ 0xce ∷ []

abbrev pub start_1 : List ℕ
start_1 = 0x14 ∷ 0x03 ∷ 0x00 ∷ 0x01 ∷ 0x00 ∷ 0x02 ∷ 0x97 ∷ 0x0e ∷ []

pub record Examples : Type 0 where
  -- check words: the manual, section 2.8 ..
  pub check_word_of_a_request : check_word (0x14 ∷ 0x03 ∷ 0x00 ∷ 0x01 ∷ 0x00 ∷ 0x02 ∷ []) ≡ 0x0e97
  pub check_word_of_a_reply : check_word (0x14 ∷ 0x03 ∷ 0x04 ∷ 0x03 ∷ 0xe8 ∷ 0x01 ∷ 0xf4 ∷ []) ≡ 0x953e
  pub check_word_of_a_write : check_word (0x14 ∷ 0x05 ∷ 0x00 ∷ 0x18 ∷ 0xff ∷ 0x00 ∷ []) ≡ 0xf80e
  -- .. and section 4.3
  pub check_word_of_a_run : check_word (0x01 ∷ 0x10 ∷ 0x00 ∷ 0xfb ∷ 0x00 ∷ 0x02 ∷ 0x04 ∷ 0x80 ∷ 0x00 ∷ 0x44 ∷ 0x09 ∷ []) ≡ 0x9e67
  -- bit 24 is word 1, bit 8; bit 0E91 hex is word 00E9 hex, bit 1
  pub bit_24 : (image : List ℕ) → image_bit image 24 ≡ bit (image_word image 1) 8
  pub bit_0e91 : (image : List ℕ) → image_bit image 0x0e91 ≡ bit (image_word image 0x00e9) 1
  -- bit 24 off turns word 1 from 1000 into 744
  pub bit_24_off : StoredOne Bit 24 off words (0 ∷ 744 ∷ 500 ∷ [])
  -- three bits from bit 24 of 1000 give the byte 03
  pub three_bits : Shown Bit 24 3 words (0x03 ∷ [])
  -- J-Bus start 1 is address 0; J-Bus start 0 is E2
  pub j_bus_start_1 : first_addressed station start_1 ≡ 0
  pub j_bus_start_0 : FirstDecides (table station areas 16 256 start_0) (exception 2)
