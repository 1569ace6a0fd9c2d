-- Exchanges that are worked out, in one table, which proofs/Witnesses.antt proves: the bench station receives a built request, and
-- gives each of the answers that there can be. So no law speaks of nothing.
-- Assumes nothing.
use Rattle.std.specs.Prelude.{[], ◌∷◌}
use Rattle.frames.specs.declared.Code.TheVariants as Code
use Rattle.slave.specs.declared.Counting.TheVariants.{ModBus, JBus}
use Rattle.slave.specs.declared.State.TheVariants.{Ready, NotReady, AtTheKeyboard}
use Rattle.slave.specs.declared.Silence.TheVariants as Silence
use Rattle.slave.specs.declared.Outcome.TheVariants.{Silent}
use Rattle.slave.specs.Answer.{Call}
use Rattle.demands.specs.Bench.{words, image, bench, Told, Excepted, Replied, two_words, read_two_words, read_three_bits, write_word_1}
use Rattle.master.specs.declared.Function.TheVariants.{ReadWords03, WriteBit05, WriteWord06, WriteWords10}
use Rattle.master.specs.Examples as master
use Rattle.exchange.specs.Terms.{Received}

-- words 15 and 16 are read, of which the station has no 16
abbrev pub read_15_and_16 : Call
read_15_and_16 = bench ModBus Ready (0x14 ∷ 0x03 ∷ 0x00 ∷ 0x0f ∷ 0x00 ∷ 0x02 ∷ 0xf6 ∷ 0xcd ∷ [])

-- word 8, which may only be read, is set to 1
abbrev pub write_word_8 : Call
write_word_8 = bench ModBus Ready (0x14 ∷ 0x06 ∷ 0x00 ∷ 0x08 ∷ 0x00 ∷ 0x01 ∷ 0xcb ∷ 0x0d ∷ [])

-- words 1 and 2 are read, counted from 1
abbrev pub read_by_j_bus : Call
read_by_j_bus = bench JBus Ready (0x14 ∷ 0x03 ∷ 0x00 ∷ 0x02 ∷ 0x00 ∷ 0x02 ∷ 0x67 ∷ 0x0e ∷ [])

-- bit 24 is turned off
abbrev pub write_bit_24 : Call
write_bit_24 = bench ModBus Ready (0x14 ∷ 0x05 ∷ 0x00 ∷ 0x18 ∷ 0x00 ∷ 0x00 ∷ 0x4f ∷ 0x08 ∷ [])

-- words 1 and 2 are set
abbrev pub write_two_words : Call
write_two_words =
    bench ModBus Ready (0x14 ∷ 0x10 ∷ 0x00 ∷ 0x01 ∷ 0x00 ∷ 0x02 ∷ 0x04 ∷ 0x12 ∷ 0x34 ∷ 0x56 ∷ 0x78 ∷ 0x0c ∷ 0x5b ∷ [])

pub record Witnesses : Type 0 where
  pub silence_13 : Received master.two_words [] (bench ModBus AtTheKeyboard two_words)
      × Told (bench ModBus AtTheKeyboard two_words) (Silent Silence.AtTheKeyboard)
  pub exception_4 : Received master.two_words [] (bench ModBus NotReady two_words)
      × Excepted (bench ModBus NotReady two_words) Code.NotReady (0x14 ∷ 0x83 ∷ 0x04 ∷ 0x51 ∷ 0x37 ∷ [])
  pub exception_2 : Received (master.asking 20 ReadWords03 15 2) [] read_15_and_16
      × Excepted read_15_and_16 Code.Address (0x14 ∷ 0x83 ∷ 0x02 ∷ 0xd1 ∷ 0x35 ∷ [])
  pub exception_8 : Received master.word_8 [] write_word_8
      × Excepted write_word_8 Code.ReadOnly (0x14 ∷ 0x86 ∷ 0x08 ∷ 0x52 ∷ 0x62 ∷ [])
  pub read : Received master.two_words [] read_two_words
      × Replied read_two_words (0x14 ∷ 0x03 ∷ 0x04 ∷ 0x03 ∷ 0xe8 ∷ 0x01 ∷ 0xf4 ∷ 0x3e ∷ 0x95 ∷ []) image
  pub read_j_bus : Received (master.asking 20 ReadWords03 2 2) [] read_by_j_bus
      × Replied read_by_j_bus (0x14 ∷ 0x03 ∷ 0x04 ∷ 0x03 ∷ 0xe8 ∷ 0x01 ∷ 0xf4 ∷ 0x3e ∷ 0x95 ∷ []) image
  pub bits_read : Received master.three_bits [] read_three_bits
      × Replied read_three_bits (0x14 ∷ 0x01 ∷ 0x01 ∷ 0x03 ∷ 0x15 ∷ 0x85 ∷ []) image
  pub bit_written : Received (master.asking 20 WriteBit05 0x0018 0) [] write_bit_24
      × Replied write_bit_24 (0x14 ∷ 0x05 ∷ 0x00 ∷ 0x18 ∷ 0x00 ∷ 0x00 ∷ 0x4f ∷ 0x08 ∷ []) (words 744 500)
  pub written : Received (master.asking 20 WriteWord06 1 0x1234) [] write_word_1
      × Replied write_word_1 (0x14 ∷ 0x06 ∷ 0x00 ∷ 0x01 ∷ 0x12 ∷ 0x34 ∷ 0xd7 ∷ 0xb8 ∷ []) (words 0x1234 500)
  pub run_written : Received (master.asking 20 WriteWords10 1 2) (0x12 ∷ 0x34 ∷ 0x56 ∷ 0x78 ∷ []) write_two_words
      × Replied write_two_words (0x14 ∷ 0x10 ∷ 0x00 ∷ 0x01 ∷ 0x00 ∷ 0x02 ∷ 0x12 ∷ 0xcd ∷ []) (words 0x1234 0x5678)
