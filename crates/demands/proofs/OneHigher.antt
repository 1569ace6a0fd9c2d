-- What a J-Bus station answers to start s + 1 is what a MOD-Bus station answers to start s, with the echo of its own start.
-- Assumes nothing.
use mathlib.Core.Path.{◌≡◌, refl, sym, ap, ◌∙◌}
use mathlib.Core.Logic.{◌≢◌, ◌↔◌}
use mathlib.Core.List.{List, ◌∷◌}
use Prim.Native.Nat.{ℕ, ◌+◌}
use native.Mathlib.Omega.{arith}
use lib.ListN.{length}
use Rattle.check_word.specs.Frame.{framed, Right}
use Rattle.frames.specs.declared.Act.{Act}
use Rattle.frames.specs.declared.Act.TheVariants.{Read, WriteOne, WriteRun}
use Rattle.frames.specs.declared.Width.{Width}
use Rattle.std.specs.Prelude.{Some}
use Rattle.frames.specs.Fields.{byte, up_to_quantity}
use Rattle.frames.specs.Functions.{function_of}
use Rattle.frames.specs.Limits.{bytes_for, request_length, reply_length}
use Rattle.slave.specs.declared.Outcome.{Outcome}
use Rattle.slave.specs.declared.Outcome.TheVariants.{Refused, Silent, Exception, Reply}
use Rattle.slave.specs.Numbers.{kind_of}
use Rattle.slave.specs.Table.{FirstDecides}
use Rattle.slave.specs.Answer.{over, ReplyTo, ImageAfter, Call, Answer, Answers}
use Rattle.slave.proofs.Cases.{act_place, apart}
use Rattle.slave.proofs.Reply.{right_framed, reply_length_lem}
use Rattle.slave.proofs.Laws.{RespondDetermined}
use Rattle.demands.specs.Terms.{lines_of, first_of, AcceptedWrite, StartOrCheckWord, AlikeButForStart}
use Rattle.demands.proofs.Left.{IsDone, LeftBy, left_by, done_by}
use Rattle.demands.proofs.Accepted.{accepted_long}
use Rattle.demands.proofs.TwoStarts.{restarted_right, Long, long_enough, quantity_over, count_over, data_over, long_over, echoes_as_long, echoes_agree}
use Rattle.demands.proofs.SameLines.{same_decides}
use Rattle.demands.proofs.JBus.{mod_bus, j_bus, same_first, same_lines}

-- the first six bytes of a frame, with their own check word
abbrev echo : List ℕ → List ℕ
echo frame = framed (up_to_quantity frame)

-- they are the reply to a write, since a write of one has no more bytes
write_echoed : (own first : ℕ) (frame image : List ℕ) (act : Act) (width : Width) (bytes : List ℕ) → act ≢ Read → Right frame
    → length frame ≡ request_length act frame → ReplyTo own first frame image act width bytes ↔ (bytes ≡ echo frame)
write_echoed own first frame image Read width bytes write right long = absurd (write refl)
write_echoed own first frame image WriteOne width bytes write right long =
    let whole = right_framed frame 6 right long in
    (λ is. is ∙ sym whole, λ is. is ∙ whole)
write_echoed own first frame image WriteRun width bytes write right long = (λ is. is, λ is. is)

module _ (call : Call) (a f start : ℕ) (rest : List ℕ) (x y : Answer)
    (there : Answers (j_bus call a f start rest) x) (here : Answers (mod_bus call a f start rest) y) where
  abbrev lower : Call
  lower = mod_bus call a f start rest

  abbrev higher : Call
  higher = j_bus call a f start rest

  -- an answer of the J-Bus station with the outcome and the image of the other, and a reply that agrees
  record Moved : Type 0 where
    reply : List ℕ
    left : LeftBy higher y.outcome y.image reply
    as_long : length reply ≡ length y.reply
    elsewhere : (i : ℕ) → (StartOrCheckWord i → ⊥) → byte reply i ≡ byte y.reply i
    equal : (AcceptedWrite lower y → ⊥) → reply ≡ y.reply

  unmoved : (outcome : Outcome) → y.outcome ≡ outcome → LeftBy higher outcome y.image y.reply → Moved
  unmoved outcome is left = record {
    reply = y.reply;
    left = rw is left;
    as_long = refl;
    elsewhere = λ i out. refl;
    equal = λ no. refl;
  }

  moved_read : (n : ℕ) → y.outcome ≡ Reply n → (width : Width) → function_of f ≡ Some (Read, width)
      → IsDone lower n y.image y.reply Read width → Moved
  moved_read n is width does d =
      let long = accepted_long lower y here n is Read width does in
      let count = quantity_over a f rest start (start + 1) Read long in
      let (shown, are, bytes_are) = d.are_the_reply in
      let same : IsDone higher n y.image y.reply Read width =
      record {
        bytes = d.bytes;
        are_the_reply = (
          shown,
          rw (← same_first call a f start rest, ← count) are,
          bytes_are ∙ ap (λ (q : ℕ). framed (call.station.own ∷ f ∷ bytes_for width q ∷ shown)) count,
        );
        told = d.told;
        written = d.written;
        stored = d.stored;
      } in
      unmoved (Reply n) is (rw does same)

  stored_over : (act : Act) (width : Width) → Long a f rest act start → (after : List ℕ)
      → ImageAfter (first_of lower) lower.frame call.image act width after
      → ImageAfter (first_of higher) higher.frame call.image act width after
  stored_over Read width long after stored = stored
  stored_over WriteOne width long after stored =
      rw (← same_first call a f start rest, ← quantity_over a f rest start (start + 1) WriteOne long) stored
  stored_over WriteRun width long after stored =
      rw (
        ← same_first call a f start rest,
        ← quantity_over a f rest start (start + 1) WriteRun long,
        ← data_over a f rest start (start + 1) long,
      ) stored

  moved_write : (n : ℕ) → y.outcome ≡ Reply n → (act : Act) (width : Width) → function_of f ≡ Some (act, width) → act ≢ Read
      → IsDone lower n y.image y.reply act width → Moved
  moved_write n is act width does write d =
      let long = accepted_long lower y here n is act width does in
      let long' = long_over a f rest start (start + 1) act long in
      let two-behind = long_enough a f rest act start long in
      let own = call.station.own in
      let echoed = (write_echoed own (first_of lower) lower.frame call.image act width d.bytes write
      (restarted_right a f rest start) long).0 d.are_the_reply in
      let are = (write_echoed own (first_of higher) higher.frame call.image act width (echo higher.frame) write
      (restarted_right a f rest (start + 1)) long').1 refl in
      let size = reply_length_lem own (first_of lower) lower.frame call.image act width _ long d.are_the_reply
      ∙ ap (reply_length act width) (count_over a f rest start (start + 1) act long)
      ∙ sym (reply_length_lem own (first_of higher) higher.frame call.image act width _ long' are) in
      let done : IsDone higher n y.image (over (echo higher.frame) call.reply) act width =
      record {
        bytes = echo higher.frame;
        are_the_reply = are;
        told = d.told ∙ size;
        written = refl;
        stored = stored_over act width long y.image d.stored;
      } in
      let written = d.written ∙ ap (λ (bytes : List ℕ). over bytes call.reply) echoed in
      record {
        reply = over (echo higher.frame) call.reply;
        left = rw (is, does) done;
        as_long = rw written (echoes_as_long a f (start + 1) start rest call.reply two-behind);
        elsewhere = λ i out. rw written (echoes_agree a f (start + 1) start rest call.reply two-behind i out);
        equal = λ no. absurd (no (n, is, rw does write));
      }

  moved_by_act : (n : ℕ) → y.outcome ≡ Reply n → (act : Act) (width : Width) → function_of f ≡ Some (act, width)
      → IsDone lower n y.image y.reply act width → Moved
  moved_by_act n is Read width does d = moved_read n is width does d
  moved_by_act n is WriteOne width does d = moved_write n is WriteOne width does (λ e. apart act_place e refl (λ p. omega arith)) d
  moved_by_act n is WriteRun width does d = moved_write n is WriteRun width does (λ e. apart act_place e refl (λ p. omega arith)) d

  moved_by : (outcome : Outcome) → y.outcome ≡ outcome → Moved
  moved_by (Refused why) is = unmoved (Refused why) is (left_by lower y here (Refused why) is)
  moved_by (Silent why) is = unmoved (Silent why) is (left_by lower y here (Silent why) is)
  moved_by (Exception code) is = unmoved (Exception code) is (left_by lower y here (Exception code) is)
  moved_by (Reply n) is =
      let (act, width, does, d) = done_by lower y here n is in
      moved_by_act n is act width does d

  pub one_higher : AlikeButForStart lower x y
  one_higher =
      let moved = moved_by y.outcome refl in
      let other : Answer = record { outcome = y.outcome; image = y.image; reply = moved.reply } in
      let decided : FirstDecides (lines_of higher) (kind_of y.outcome) =
      same_decides (lines_of lower) (lines_of higher) _ (same_lines call a f start rest) here.decided in
      let same = RespondDetermined higher x other there (record { decided = decided; left = moved.left }) in
      let replies = ap (λ (answer : Answer). answer.reply) same in
      record {
        outcomes = ap (λ (answer : Answer). answer.outcome) same;
        images = ap (λ (answer : Answer). answer.image) same;
        replies = λ no. replies ∙ moved.equal no;
        as_long = ap length replies ∙ moved.as_long;
        elsewhere = λ i out. ap (λ (reply : List ℕ). byte reply i) replies ∙ moved.elsewhere i out;
      }
