-- What the slave sends to a built request is read as what it means.
-- Assumes nothing.
use mathlib.Core.Path.{◌≡◌, refl}
use mathlib.Core.Logic.{inl, inr, ◌≢◌}
use mathlib.Core.List.{List, []}
use Prim.Native.Nat.{ℕ, ◌≤◌}
use native.Mathlib.Omega.{arith}
use lib.ListN.{length}
use Rattle.check_word.specs.Frame.{framed}
use Rattle.frames.specs.declared.Act.{Act}
use Rattle.frames.specs.declared.Act.TheVariants.{Read, WriteOne, WriteRun}
use Rattle.frames.specs.declared.Width.{Width}
use Rattle.frames.specs.declared.Width.TheVariants.{Bit, Word}
use Rattle.slave.specs.declared.Outcome.{Outcome}
use Rattle.slave.specs.declared.Outcome.TheVariants.{Refused, Silent, Exception, Reply}
use Rattle.slave.specs.Answer.{Shown, Call, Answer, Answers}
use Rattle.slave.proofs.Cases.{act_place, apart}
use Rattle.slave.proofs.Reply.{shown_length}
use Rattle.demands.specs.Terms.{sent}
use Rattle.demands.proofs.Demands.{Untouched}
use Rattle.master.specs.declared.Request.{Request}
use Rattle.master.specs.declared.Reading.TheVariants.{Written}
use Rattle.master.specs.Requests.{act, width, request_head}
use Rattle.master.specs.Refusals.{least_room, FieldsRefused}
use Rattle.master.specs.Reading.{SpareBits0}
use Rattle.exchange.specs.Terms.{Received, CallNotRefused, ReadAs, first_named, MeansBy, Means}
use Rattle.exchange.proofs.Answered.{limits_kept, station_kept}
use Rattle.exchange.proofs.Reading.{reply_to_read, reply_to_write, exception_reply}
use Rattle.exchange.proofs.Sent.{nothing_sent, exception_sent, read_done, read_sent, one_written, run_written}

shown_spare : (width : Width) (first count : ℕ) (image shown : List ℕ) → Shown width first count image shown
    → SpareBits0 width count shown
shown_spare Bit first count image shown are = are.spare
shown_spare Word first count image shown are = tt

module _ {request : Request} {carried : List ℕ} {call : Call} {answer : Answer} (received : Received request carried call)
    (answers : Answers call answer) (kept : CallNotRefused answer) (buffer : List ℕ) (room : least_room ≤ length buffer) where
  -- what is not refused with 70 when it is built, is not when the reply is read
  fields_kept : FieldsRefused request (length buffer) → ⊥
  fields_kept (inl out) = limits_kept received out
  fields_kept (inr (inl none)) = station_kept received none
  fields_kept (inr (inr few)) = omega arith

  echo_read : act request ≢ Read → sent answer ≡ framed (request_head request) → ReadAs request (sent answer) buffer Written []
  echo_read writes echo = rw echo (reply_to_write request buffer fields_kept writes)

  reply_understood : (n : ℕ) → answer.outcome ≡ Reply n → (does : Act) → act request ≡ does
      → MeansBy does request carried call answer buffer
  reply_understood n is Read reads =
      let (shown, are, bytes) = read_sent received answers n is reads in
      let size = shown_length (width request) (first_named request call) request.operand call.image shown are in
      let spare = shown_spare (width request) (first_named request call) request.operand call.image shown are in (
        shown,
        are,
        rw bytes (reply_to_read request buffer fields_kept shown reads size spare),
        (read_done received answers n is reads).stored,
      )
  reply_understood n is WriteOne one =
      let (sets, echo) = one_written received answers n is one in
      (echo_read (λ reads. apart act_place one reads (omega arith)) echo, sets)
  reply_understood n is WriteRun run =
      let (sets, echo) = run_written received answers n is run in
      (echo_read (λ reads. apart act_place run reads (omega arith)) echo, sets)

  pub understood_by : (outcome : Outcome) → answer.outcome ≡ outcome → Means request carried call answer buffer outcome
  understood_by (Refused why) is = kept why is
  understood_by (Silent why) is = (nothing_sent received answers why is, (Untouched.silent call answer answers why is).0)
  understood_by (Exception code) is = (
    rw (exception_sent received answers code is) (exception_reply request buffer fields_kept code),
    (Untouched.excepted call answer answers code is).0,
  )
  understood_by (Reply n) is = reply_understood n is (act request) refl
