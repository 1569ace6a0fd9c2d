-- A reply that is accepted: its bytes, field by field, and the values that are read from it.
-- Assumes nothing.
use mathlib.Core.Path.{◌≡◌, refl, sym, ap, ◌∙◌}
use mathlib.Core.Logic.{inr}
use mathlib.Core.List.{List, []}
use Prim.Native.Nat.{ℕ}
use native.Mathlib.Omega.{arith}
use lib.ListN.{length, take, drop, length-drop}
use lib.Seq.{length-take-le, take_at}
use Rattle.std.specs.Prelude.{Ok}
use Rattle.check_word.specs.Frame.{Bytes, Right}
use Rattle.frames.specs.Exceptions.{code_number, top_bit_set}
use Rattle.master.specs.declared.Request.{Request}
use Rattle.master.specs.declared.Reading.{Reading}
use Rattle.master.specs.declared.Reading.TheVariants.{Data, Written, Exception}
use Rattle.master.specs.Requests.{function_number}
use Rattle.master.specs.Reading.{data_in, Fits, Left, ToldBy, ReadReply}
use Rattle.master.specs.Laws.{values, ReplyWith}
use Rattle.master.proofs.Body.{not_wrong_right, frame_is, echo_is}
use Rattle.master.proofs.Fits.{read_long, write_long, fits_one}

-- ---- the values, as they stand in the reply

abbrev values_in : Reading → List ℕ → List ℕ
values_in (Data n) reply = data_in n reply
values_in Written reply = []
values_in (Exception code) reply = []

values_in_lem : (request : Request) (reply before : List ℕ) (reading : Reading) (after : List ℕ) → Fits request reply reading
    → Left reply before (Ok reading) after → values reading after ≡ values_in reading reply
values_in_lem request reply before (Data n) after fits left =
    let long = read_long request reply n fits in
    let size = length-take-le n (drop 3 reply) (omega (arith, length-drop 3 reply, long)) in
    ap (take n) left ∙ take_at (data_in n reply) (drop n before) n size
values_in_lem request reply before Written after fits left = refl
values_in_lem request reply before (Exception code) after fits left = refl

-- ---- its bytes

bytes_are : (request : Request) (reply : List ℕ) (reading : Reading) → Bytes reply → Right reply → Fits request reply reading
    → ReplyWith request (values_in reading reply) reply reading
bytes_are request reply (Data n) small right fits =
    let long = read_long request reply n fits in (
      fits.reads,
      fits.size,
      length-take-le n (drop 3 reply) (omega (arith, length-drop 3 reply, long)),
      fits.spare,
      frame_is reply request.station (function_number request.function) n n right fits.station fits.function
          fits.byte_count long,
    )
bytes_are request reply Written small right fits = (
  fits.writes,
  echo_is reply request.station (function_number request.function) request.start request.operand right small
      fits.station fits.function fits.start fits.operand (write_long request reply fits),
)
bytes_are request reply (Exception code) small right fits =
    frame_is reply request.station (top_bit_set (function_number request.function)) (code_number code) 0 right
    fits.station fits.function fits.number fits.long

one_reply : (request : Request) (values x y : List ℕ) (reading : Reading) → ReplyWith request values x reading
    → ReplyWith request values y reading → x ≡ y
one_reply request values x y (Data n) p q = p.4 ∙ sym q.4
one_reply request values x y Written p q = p.1 ∙ sym q.1
one_reply request values x y (Exception code) p q = p ∙ sym q

-- ---- where it is accepted

accepted_right : (request : Request) (room : ℕ) (reply : List ℕ) (reading : Reading) → ToldBy request room reply (Ok reading) → Right reply
accepted_right request room reply reading told = not_wrong_right reply (λ wrong. told.0.1.0 (inr wrong))

pub every_field : (request : Request) (reply before : List ℕ) (reading : Reading) (after : List ℕ) → Bytes reply
    → ReadReply request reply before (Ok reading) after → ReplyWith request (values reading after) reply reading
every_field request reply before reading after small read =
    let right = accepted_right request (length before) reply reading read.told in
    let same = values_in_lem request reply before reading after read.told.1 read.left in
    rw same (bytes_are request reply reading small right read.told.1)

pub one_value : (p q : Request) (reply before other : List ℕ) (a b : Reading) (after_a after_b : List ℕ)
    → ReadReply p reply before (Ok a) after_a → ReadReply q reply other (Ok b) after_b
    → (a ≡ b) × (values a after_a ≡ values b after_b)
one_value p q reply before other a b after_a after_b read_a read_b =
    let same = fits_one reply p q a b read_a.told.1 read_b.told.1 in (
      same,
      values_in_lem p reply before a after_a read_a.told.1 read_a.left
          ∙ ap (λ (reading : Reading). values_in reading reply) same
          ∙ sym (values_in_lem q reply other b after_b read_b.told.1 read_b.left),
    )

pub but_for_those : (request : Request) (x y before other : List ℕ) (reading : Reading) (after_x after_y : List ℕ)
    → Bytes x → Bytes y → ReadReply request x before (Ok reading) after_x → ReadReply request y other (Ok reading) after_y
    → values reading after_x ≡ values reading after_y → x ≡ y
but_for_those request x y before other reading after_x after_y small_x small_y read_x read_y same =
    let fields_x = every_field request x before reading after_x small_x read_x in
    let fields_y = every_field request y other reading after_y small_y read_y in
    one_reply request (values reading after_x) x y reading fields_x (rw same fields_y)
