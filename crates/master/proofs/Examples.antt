-- The table of examples, as specs/Examples.antt states it.
-- Assumes nothing.
use mathlib.Core.Path.{◌≡◌, refl, ap}
use mathlib.Core.Bool.{xor}
use mathlib.Core.Logic.{◌≢◌, inl, inr, ⊎_elim}
use mathlib.Core.List.{List, [], ◌∷◌}
use Prim.Native.Nat.{ℕ, ◌≤◌}
use native.Mathlib.Omega.{arith}
use lib.ListN.{length}
use Rattle.std.specs.Prelude.{Ok, Err}
use Rattle.check_word.specs.CheckWord.{corrected, step, steps, add_byte, add_bytes, check_word}
use Rattle.check_word.specs.Frame.{Right}
use Rattle.check_word.specs.Line.{bits, line_bits, differences, ones_at, odd, Damaged}
use Rattle.check_word.proofs.Laws.{Damage}
use Rattle.check_word.proofs.Witnesses.{bytes_by}
use Rattle.registers.specs.Memory.{bit, bit_among}
use Rattle.frames.specs.declared.Act.{Act}
use Rattle.frames.specs.declared.Width.TheVariants.{Bit}
use Rattle.frames.specs.declared.Code.TheVariants as Code
use Rattle.frames.specs.Fields.{number}
use Rattle.frames.specs.Limits.{most, reply_length}
use Rattle.frames.specs.Exceptions.{top_bit_set}
use Rattle.master.specs.declared.Function.TheVariants.{ReadBits02, ReadWords04, WriteWord06, WriteBits0F}
use Rattle.master.specs.declared.Request.{Request}
use Rattle.master.specs.declared.Refusal.TheVariants as Refusal
use Rattle.master.specs.declared.Reading.{Reading}
use Rattle.master.specs.declared.Reading.TheVariants.{Data, Written, Exception}
use Rattle.master.specs.Requests.{act, width, quantity, function_number, data_size}
use Rattle.master.specs.Refusals.{least_room, FieldsRefused}
use Rattle.master.specs.Building.{RequestFrame, over}
use Rattle.master.specs.Reading.{Fits, Left}
use Rattle.master.specs.Spare.{bits_in_last}
use Rattle.master.specs.Examples as examples
use Rattle.master.proofs.SpareBits.{words_packed_again, bits_packed_again, last_stays_spare_0}
use Rattle.master.proofs.Accepting.{fields_kept, no_bit, request_built, told_right}

abbrev room : ℕ
room = length examples.room

-- fields that are in order, of a function other than 05, and of 05
fields : (request : Request)
    → (1 ≤ quantity request) × (quantity request ≤ most (act request) (width request)) × (1 ≤ request.station) × (least_room ≤ room)
    × (function_number request.function ≢ 5)
    → FieldsRefused request room → ⊥
fields request kept = fields_kept request room (omega (arith, kept)) (no_bit request (omega (arith, kept)))

bit_fields : FieldsRefused examples.bit_on room → ⊥
bit_fields = fields_kept examples.bit_on room (omega arith) (λ is. inl refl)

module _ (request : Request) (kept : FieldsRefused request room → ⊥) where
  -- with its data the request is built ..
  built : (carried bytes : List ℕ) → length carried ≡ data_size request → RequestFrame request carried bytes
      → examples.Builds request carried bytes
  built carried bytes = request_built request carried examples.room bytes kept

  -- .. and a reply is read if it fits ..
  read : (reply : List ℕ) (reading : Reading) (bytes : List ℕ) → 5 ≤ length reply → Right reply → Fits request reply reading
      → Left reply examples.room (Ok reading) (over bytes examples.room) → examples.Reads request reply (Ok reading) bytes
  read reply reading bytes long right fits left =
      record { told = told_right request room reply reading kept long right fits; left = left }

  -- .. or refused, with 71 or 72
  wrong : (reply : List ℕ) → (Right reply → ⊥) → examples.Reads request reply (Err Refusal.CheckWord) []
  wrong reply not = record { told = inr (kept, inl (inr not, refl)); left = refl }

  misfit : (reply : List ℕ) → 5 ≤ length reply → Right reply → ((reading : Reading) → Fits request reply reading → ⊥)
      → examples.Reads request reply (Err Refusal.Reply) []
  misfit reply long right none = record {
    told = inr (kept, inr (⊎_elim (λ short. omega arith) (λ not. not right), inl (none, refl)));
    left = refl;
  }

-- ---- replies that fit in nothing that could be read

no_code_5 : (reading : Reading) → Fits examples.word_8 (0x14 ∷ 0x86 ∷ 0x05 ∷ 0x93 ∷ 0xa7 ∷ []) reading → ⊥
no_code_5 (Data n) fits = omega (arith, fits.function)
no_code_5 Written fits = omega (arith, fits.function)
no_code_5 (Exception Code.Function) fits = omega (arith, fits.number)
no_code_5 (Exception Code.Address) fits = omega (arith, fits.number)
no_code_5 (Exception Code.Value) fits = omega (arith, fits.number)
no_code_5 (Exception Code.NotReady) fits = omega (arith, fits.number)
no_code_5 (Exception Code.ReadOnly) fits = omega (arith, fits.number)

no_fourth_bit : (reading : Reading) → Fits examples.three_bits (0x14 ∷ 0x01 ∷ 0x01 ∷ 0x0b ∷ 0x14 ∷ 0x43 ∷ []) reading → ⊥
unfolding bit bit_among top_bit_set
no_fourth_bit (Data n) fits =
    let on : ◌≡◌ {A = ℕ} 1 0 = rw fits.size at (fits.spare 3 (omega arith)) in
    omega arith
no_fourth_bit Written fits = fits.writes refl
no_fourth_bit (Exception code) fits = omega (arith, fits.function)

-- the reply to a write is longer than that to a read of nothing
abbrev length_of : Act → ℕ
length_of act = reply_length act Bit 0

flipped : Damaged examples.the_two_words examples.one_flipped
unfolding check_word add_bytes add_byte steps step corrected xor bits line_bits differences ones_at
flipped = record {
  sent_bytes = bytes_by examples.the_two_words refl;
  at_least = omega arith;
  at_most = omega arith;
  right = record { enough = omega arith; ends = refl };
  received_bytes = bytes_by examples.one_flipped refl;
  as_long = refl;
  shown = odd refl;
}

-- ---- the table

abbrev weight : List ℕ
weight = 0x80 ∷ 0x00 ∷ 0x44 ∷ 0x09 ∷ []

pub Examples : examples.Examples
unfolding check_word add_bytes add_byte steps step corrected number top_bit_set bits_in_last
Examples = record {
  built_01 =
      built examples.four_bits (fields examples.four_bits (omega arith))
      [] _ refl (record { rest = []; following = refl; are = refl });
  built_02 =
      built (examples.asking 10 ReadBits02 0x0370 4) (fields (examples.asking 10 ReadBits02 0x0370 4) (omega arith))
      [] _ refl (record { rest = []; following = refl; are = refl });
  built_03 =
      built examples.two_words (fields examples.two_words (omega arith))
      [] _ refl (record { rest = []; following = refl; are = refl });
  built_04 =
      built (examples.asking 20 ReadWords04 1 2) (fields (examples.asking 20 ReadWords04 1 2) (omega arith))
      [] _ refl (record { rest = []; following = refl; are = refl });
  built_05 =
      built examples.bit_on bit_fields
      [] _ refl (record { rest = []; following = refl; are = refl });
  built_06 =
      built (examples.asking 1 WriteWord06 0x00eb 1) (fields (examples.asking 1 WriteWord06 0x00eb 1) (omega arith))
      [] _ refl (record { rest = []; following = refl; are = refl });
  built_10 =
      built examples.a_weight (fields examples.a_weight (omega arith))
      weight _ refl (record { rest = _; following = (_, words_packed_again 2 weight (bytes_by weight refl) refl, refl); are = refl });
  built_0f =
      built (examples.asking 20 WriteBits0F 0x0018 3) (fields (examples.asking 20 WriteBits0F 0x0018 3) (omega arith))
      (0xff ∷ []) _ refl
      (record {
        rest = _;
        following = (_, bits_packed_again 3 (0xff ∷ []) (bytes_by (0xff ∷ []) refl) refl (omega arith), refl);
        are = refl;
      });
  read_01 =
      read examples.four_bits (fields examples.four_bits (omega arith))
      _ (Data 1) (0x0f ∷ []) (omega arith) (record { enough = omega arith; ends = refl })
      (record {
        reads = refl;
        station = refl;
        function = refl;
        size = refl;
        byte_count = refl;
        spare = last_stays_spare_0 4 (0x0f ∷ []) (bytes_by (0x0f ∷ []) refl) refl (omega arith) refl;
        long = refl;
      }) refl;
  read_03 =
      read examples.two_words (fields examples.two_words (omega arith))
      _ (Data 4) (0x03 ∷ 0xe8 ∷ 0x01 ∷ 0xf4 ∷ []) (omega arith) (record { enough = omega arith; ends = refl })
      (record { reads = refl; station = refl; function = refl; size = refl; byte_count = refl; spare = tt; long = refl }) refl;
  read_05 =
      read examples.bit_on bit_fields
      _ Written [] (omega arith) (record { enough = omega arith; ends = refl })
      (record { writes = λ e. omega (arith, ap length_of e); station = refl; function = refl; start = refl; operand = refl; long = refl }) refl;
  read_10 =
      read examples.a_weight (fields examples.a_weight (omega arith))
      _ Written [] (omega arith) (record { enough = omega arith; ends = refl })
      (record { writes = λ e. omega (arith, ap length_of e); station = refl; function = refl; start = refl; operand = refl; long = refl }) refl;
  exception =
      read examples.word_8 (fields examples.word_8 (omega arith))
      _ (Exception Code.ReadOnly) [] (omega arith) (record { enough = omega arith; ends = refl })
      (record { station = refl; function = refl; number = refl; long = refl }) refl;
  refused_70 =
      record { told = inl (inl (inr (inl (omega arith))), refl); left = refl };
  refused_71 = (
    flipped,
    wrong examples.two_words (fields examples.two_words (omega arith)) examples.one_flipped
        (Damage examples.the_two_words examples.one_flipped flipped),
  );
  code_5 =
      misfit examples.word_8 (fields examples.word_8 (omega arith))
      _ (omega arith) (record { enough = omega arith; ends = refl }) no_code_5;
  spare_bit =
      misfit examples.three_bits (fields examples.three_bits (omega arith))
      _ (omega arith) (record { enough = omega arith; ends = refl }) no_fourth_bit;
}
