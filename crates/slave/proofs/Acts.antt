-- A request that can be carried out, act by act: what its calls need, and that it is done by them.
-- Assumes nothing.
use mathlib.Core.Path.{◌≡◌, refl, sym, ap, ◌∙◌}
use mathlib.Core.List.{List, ◌∷◌}
use Prim.Native.Nat.{ℕ, ◌+◌, ◌*◌, ◌-◌, ◌≤◌}
use native.Mathlib.Omega.{arith}
use lib.ListN.{length, take, drop}
use Rattle.check_word.specs.Frame.{framed}
use Rattle.frames.specs.declared.Act.{Act}
use Rattle.frames.specs.declared.Act.TheVariants.{Read, WriteOne, WriteRun}
use Rattle.frames.specs.declared.Width.{Width}
use Rattle.frames.specs.declared.Width.TheVariants.{Bit, Word}
use Rattle.frames.specs.Fields.{function_field, quantity_field, value_field, byte_count_field, data_field, up_to_quantity}
use Rattle.frames.specs.Limits.{most_of_a_run, most, bytes_for, reply_length}
use Rattle.slave.specs.declared.decide.Request.{Request}
use Rattle.slave.specs.Conditions.{least_room}
use Rattle.slave.specs.Answer.{StoredOne, StoredRun, over, ReplyTo, ImageAfter, Done}
use Rattle.slave.specs.Carrying.{ReadWritten, Possible}
use Rattle.slave.proofs.Reply.{reply_length_lem}

-- the part of a frame that is lent to be stored: what stands between byte count and check word
abbrev lent_bytes : List ℕ → List ℕ
lent_bytes frame = take (length frame - 2 - 7) (drop 7 frame)

most_have_room : (width : Width) (count : ℕ) → count ≤ most_of_a_run width → 5 + bytes_for width count ≤ least_room
most_have_room Bit count h = omega arith
most_have_room Word count h = omega arith

-- a byte takes at most eight of what is addressed
pub eight_to_a_byte : (width : Width) (count : ℕ) → count ≤ 8 * bytes_for width count
eight_to_a_byte Bit count = omega arith
eight_to_a_byte Word count = omega arith

most_at_most_256 : (act : Act) (width : Width) → most act width ≤ 256
most_at_most_256 Read Bit = omega arith
most_at_most_256 Read Word = omega arith
most_at_most_256 WriteOne width = omega arith
most_at_most_256 WriteRun Bit = omega arith
most_at_most_256 WriteRun Word = omega arith

module _ {frame : List ℕ} {words room : ℕ} {request : Request} (possible : Possible frame words room request) where
  run_counted : request.act ≡ WriteRun → length frame ≡ 9 + byte_count_field frame
  run_counted act = rw act at possible.long

  run_data_lem : request.act ≡ WriteRun → lent_bytes frame ≡ data_field frame
  run_data_lem act =
      let count : length frame - 2 - 7 ≡ byte_count_field frame = omega (arith, run_counted act) in
      ap (λ (n : ℕ). take n (drop 7 frame)) count

  module _ (own : ℕ) (image reply : List ℕ) (n : ℕ) (image_after reply_after : List ℕ)
      (told : n ≡ reply_length request.act request.width request.count) where
    abbrev IsDone : Type 0
    IsDone = Done own request.first frame image reply request.act request.width n image_after reply_after

    done : (bytes : List ℕ) → ReplyTo own request.first frame image request.act request.width bytes
        → reply_after ≡ over bytes reply → ImageAfter request.first frame image request.act request.width image_after → IsDone
    done bytes are written stored = record {
      bytes = bytes;
      are_the_reply = are;
      told = told ∙ ap (reply_length request.act request.width) possible.count_read
          ∙ sym (reply_length_lem own request.first frame image request.act request.width bytes possible.long are);
      written = written;
      stored = stored;
    }

    pub read_done : request.act ≡ Read
        → ReadWritten own (function_field frame) request.width request.first request.count image reply reply_after
        → image_after ≡ image → IsDone
    read_done act read left =
        let count : request.count ≡ quantity_field frame = rw act at possible.count_read in
        let body : ℕ → List ℕ = λ k. own ∷ function_field frame ∷ bytes_for request.width k ∷ read.shown in
        done (framed (body (quantity_field frame))) (rw act (read.shown, rw count at read.are_shown, refl))
        (read.written ∙ ap (λ (k : ℕ). over (framed (body k)) reply) count) (rw act left)

    pub one_done : request.act ≡ WriteOne → StoredOne request.width request.first (value_field frame) image image_after
        → reply_after ≡ over frame reply → IsDone
    one_done act stored echoed = done frame (rw act refl) echoed (rw act stored)

    pub run_done : request.act ≡ WriteRun
        → StoredRun request.width request.first request.count (lent_bytes frame) image image_after
        → reply_after ≡ over (framed (up_to_quantity frame)) reply → IsDone
    run_done act stored echoed =
        let count : request.count ≡ quantity_field frame = rw act at possible.count_read in
        done (framed (up_to_quantity frame)) (rw act refl) echoed (rw act (rw (run_data_lem act, count) at stored))
