-- The exchanges of specs/Witnesses.antt, worked out.
-- Assumes nothing.
use mathlib.Core.Path.{◌≡◌, refl, sym}
use mathlib.Core.Logic.{inr}
use mathlib.Core.List.{List, [], ◌∷◌}
use Prim.Native.Nat.{ℕ, ◌≤◌}
use native.Mathlib.Omega.{arith}
use lib.ListN.{length, drop}
use lib.Seq.{take-append_seam}
use Rattle.check_word.specs.CheckWord.{corrected, step, steps, add_byte, add_bytes, check_word}
use Rattle.check_word.proofs.Witnesses.{bytes_by}
use Rattle.frames.specs.Limits.{most, BitValue}
use Rattle.slave.specs.declared.Counting.TheVariants.{ModBus}
use Rattle.slave.specs.declared.State.TheVariants.{NotReady, AtTheKeyboard}
use Rattle.slave.specs.Answer.{Call}
use Rattle.demands.specs.Bench.{bench, two_words, read_two_words, read_three_bits, write_word_1}
use Rattle.demands.proofs.Witnesses as demands
use Rattle.master.specs.declared.Function.TheVariants.{ReadWords03, WriteBit05, WriteWord06, WriteWords10}
use Rattle.master.specs.declared.Request.{Request}
use Rattle.master.specs.Requests.{act, width, quantity, data_size}
use Rattle.master.specs.Refusals.{least_room}
use Rattle.master.specs.Building.{RequestFrame, over}
use Rattle.master.specs.Examples as master
use Rattle.master.proofs.SpareBits.{words_packed_again}
use Rattle.master.proofs.Accepting.{fields_kept, no_bit, request_built}
use Rattle.exchange.specs.Terms.{Received}
use Rattle.exchange.specs.Witnesses as witnesses

-- a call whose frame has the bytes of a request in order, to the station's address
received : (request : Request) (carried : List ℕ) (call : Call)
    → (1 ≤ quantity request) × (quantity request ≤ most (act request) (width request)) × (1 ≤ request.station)
    → (request.function ≡ WriteBit05 → BitValue request.operand)
    → length carried ≡ data_size request → RequestFrame request carried call.frame → call.station.own ≡ request.station
    → Received request carried call
received request carried call kept value size frame address = record {
  before = master.room;
  n = length call.frame;
  after = over call.frame master.room;
  built =
      request_built request carried master.room call.frame (fields_kept request least_room (omega (arith, kept)) value) size frame;
  frame = sym (take-append_seam call.frame (drop (length call.frame) master.room));
  address = address;
}

abbrev two_data : List ℕ
two_data = 0x12 ∷ 0x34 ∷ 0x56 ∷ 0x78 ∷ []

pub Witnesses : witnesses.Witnesses
unfolding check_word add_bytes add_byte steps step corrected
Witnesses = record {
  silence_13 = (
    received master.two_words [] (bench ModBus AtTheKeyboard two_words) (omega arith) (no_bit master.two_words (omega arith)) refl
        (record { rest = []; following = refl; are = refl }) refl,
    (demands.Witnesses).line_13,
  );
  exception_4 = (
    received master.two_words [] (bench ModBus NotReady two_words) (omega arith) (no_bit master.two_words (omega arith)) refl
        (record { rest = []; following = refl; are = refl }) refl,
    (demands.Witnesses).line_e4,
  );
  exception_2 = (
    received (master.asking 20 ReadWords03 15 2) [] witnesses.read_15_and_16 (omega arith) (no_bit (master.asking 20 ReadWords03 15 2) (omega arith)) refl
        (record { rest = []; following = refl; are = refl }) refl,
    (demands.Witnesses).line_e2,
  );
  exception_8 = (
    received master.word_8 [] witnesses.write_word_8 (omega arith) (no_bit master.word_8 (omega arith)) refl
        (record { rest = []; following = refl; are = refl }) refl,
    (demands.Witnesses).line_e8,
  );
  read = (
    received master.two_words [] read_two_words (omega arith) (no_bit master.two_words (omega arith)) refl
        (record { rest = []; following = refl; are = refl }) refl,
    (demands.Witnesses).function_03_mod_bus,
  );
  read_j_bus = (
    received (master.asking 20 ReadWords03 2 2) [] witnesses.read_by_j_bus (omega arith) (no_bit (master.asking 20 ReadWords03 2 2) (omega arith)) refl
        (record { rest = []; following = refl; are = refl }) refl,
    (demands.Witnesses).function_03_j_bus,
  );
  bits_read = (
    received master.three_bits [] read_three_bits (omega arith) (no_bit master.three_bits (omega arith)) refl
        (record { rest = []; following = refl; are = refl }) refl,
    (demands.Witnesses).function_01_mod_bus,
  );
  bit_written = (
    received (master.asking 20 WriteBit05 0x0018 0) [] witnesses.write_bit_24 (omega arith) (λ is. inr refl) refl
        (record { rest = []; following = refl; are = refl }) refl,
    (demands.Witnesses).function_05_mod_bus,
  );
  written = (
    received (master.asking 20 WriteWord06 1 0x1234) [] write_word_1 (omega arith) (no_bit (master.asking 20 WriteWord06 1 0x1234) (omega arith)) refl
        (record { rest = []; following = refl; are = refl }) refl,
    (demands.Witnesses).function_06_mod_bus,
  );
  run_written = (
    received (master.asking 20 WriteWords10 1 2) two_data witnesses.write_two_words (omega arith) (no_bit (master.asking 20 WriteWords10 1 2) (omega arith)) refl
        (record {
          rest = _;
          following = (_, words_packed_again 2 two_data (bytes_by two_data refl) refl, refl);
          are = refl;
        }) refl,
    (demands.Witnesses).function_10_mod_bus,
  );
}
