-- Outcome and reply look at no register but those that an accepted read shows.
-- Assumes nothing.
use mathlib.Core.Path.{◌≡◌, refl, sym, ap, ◌∙◌}
use mathlib.Core.List.{List}
use Prim.Native.Nat.{ℕ, ◌+◌, ◌/◌, ◌%◌, ◌<◌}
use native.Mathlib.Omega.{arith}
use lib.ListN.{length}
use Rattle.registers.specs.Memory.{word_bits, bit, bit_among}
use Rattle.registers.proofs.Packed.{bits_packed_run, words_packed_run}
use Rattle.frames.specs.declared.Act.{Act}
use Rattle.frames.specs.declared.Act.TheVariants.{Read, WriteOne, WriteRun}
use Rattle.frames.specs.declared.Width.{Width}
use Rattle.frames.specs.declared.Width.TheVariants.{Bit, Word}
use Rattle.std.specs.Prelude.{Option, Some, None}
use Rattle.frames.specs.Fields.{quantity_field}
use Rattle.slave.specs.declared.Outcome.{Outcome}
use Rattle.slave.specs.declared.Outcome.TheVariants.{Refused, Silent, Exception, Reply}
use Rattle.slave.specs.Numbers.{kind_of}
use Rattle.slave.specs.Table.{FirstDecides}
use Rattle.slave.specs.Answer.{Shown, ReplyTo, Call, Answer, Answers}
use Rattle.slave.proofs.Cases.{width_place, apart}
use Rattle.slave.proofs.Lines.{first_determined}
use Rattle.slave.proofs.Laws.{RespondDetermined}
use Rattle.demands.specs.Terms.{lines_of, Does, first_of, with_image, AcceptedRead, element, SameReply, AgreeOnWords, AgreeOnBits}
use Rattle.demands.proofs.Left.{is_reply, IsDone, LeftBy, left_by, done, done_by}

abbrev found_width : Option (Act × Width) → ℕ
found_width (Some (act, width)) = width_place width
found_width None = 0

module _ (call : Call) (other : List ℕ) (a b : Answer) (here : Answers call a) (there : Answers (with_image other call) b)
    (as_long : length other ≡ length call.image) where
  abbrev seen : Call
  seen = with_image other call

  -- what an accepted read of the other image shows, it shows of this one
  abbrev ShownAlike : Type 0
  ShownAlike = (width : Width) → AcceptedRead call a → Does call Read width → (shown : List ℕ)
      → Shown width (first_of call) (quantity_field call.frame) other shown
      → Shown width (first_of call) (quantity_field call.frame) call.image shown

  -- the table looks at no register
  decided_there : FirstDecides (lines_of call) (kind_of b.outcome)
  decided_there = rw as_long at there.decided

  same_kind : kind_of a.outcome ≡ kind_of b.outcome
  same_kind = first_determined (lines_of call) _ _ here.decided decided_there

  reply_over : (m : ℕ) → a.outcome ≡ Reply m → ShownAlike → (act : Act) (width : Width) → Does call act width → (bytes : List ℕ)
      → ReplyTo call.station.own (first_of call) call.frame other act width bytes
      → ReplyTo call.station.own (first_of call) call.frame call.image act width bytes
  reply_over m is alike Read width does bytes (shown, are, framed) =
      (shown, alike width (m, is, width, does) does shown are, framed)
  reply_over m is alike WriteOne width does bytes r = r
  reply_over m is alike WriteRun width does bytes r = r

  left_there : ShownAlike → (outcome : Outcome) → b.outcome ≡ outcome → (image : List ℕ) × LeftBy call outcome image b.reply
  left_there alike (Refused why) is = (call.image, (refl, (left_by seen b there (Refused why) is).1))
  left_there alike (Silent why) is = (call.image, (refl, (left_by seen b there (Silent why) is).1))
  left_there alike (Exception code) is = (call.image, (refl, (left_by seen b there (Exception code) is).1))
  left_there alike (Reply n) is =
      let (act, width, does, d) = done_by seen b there n is in
      let (m, same) = is_reply a.outcome (same_kind ∙ ap kind_of is) in
      let moved : IsDone call n a.image b.reply act width =
      record {
        bytes = d.bytes;
        are_the_reply = reply_over m same alike act width does d.bytes d.are_the_reply;
        told = d.told;
        written = d.written;
        stored = (done call a here m same act width does).stored;
      } in
      (a.image, rw does moved)

  -- the other answer's outcome and reply, with some image, are allowed here: so they are ours
  alike_by : ShownAlike → SameReply a b
  alike_by alike =
      let (image, left) = left_there alike b.outcome refl in
      let moved : Answer = record { outcome = b.outcome; image = image; reply = b.reply } in
      let same = RespondDetermined call a moved here (record { decided = decided_there; left = left }) in
      (ap (λ (answer : Answer). answer.outcome) same, ap (λ (answer : Answer). answer.reply) same)

  -- ---- three ways to be alike

  -- if the addressed run is the same in both images
  run_over : (width : Width)
      → ((n : ℕ) → n < quantity_field call.frame
      → element width call.image (first_of call + n) ≡ element width other (first_of call + n))
      → (shown : List ℕ) → Shown width (first_of call) (quantity_field call.frame) other shown
      → Shown width (first_of call) (quantity_field call.frame) call.image shown
  run_over Bit same shown s = bits_packed_run s (λ n h. sym (same n h))
  run_over Word same shown s = words_packed_run s (λ n h. sym (same n h))

  same_element : AgreeOnWords call other → (width : Width) → Does call Read width → (n : ℕ) → n < quantity_field call.frame
      → element width call.image (first_of call + n) ≡ element width other (first_of call + n)
  unfolding bit_among
  same_element agree Bit does n h =
      let k = first_of call + n in
      ap (λ (word : ℕ). bit word (k % word_bits)) (agree Read Bit does (k / word_bits) (k, (omega arith, omega arith), refl))
  same_element agree Word does n h = agree Read Word does (first_of call + n) (omega arith, omega arith)

  pub agree_on_words : AgreeOnWords call other → SameReply a b
  agree_on_words agree = alike_by (λ width accepted does. run_over width (same_element agree width does))

  same_bit : AgreeOnBits call other → (width : Width) → ◌≡◌ {A = Option (Act × Width)} (Some (Read, Bit)) (Some (Read, width))
      → (n : ℕ) → n < quantity_field call.frame
      → element width call.image (first_of call + n) ≡ element width other (first_of call + n)
  same_bit agree Bit e n h = agree (first_of call + n) (omega arith, omega arith)
  same_bit agree Word e n h = absurd (apart found_width e refl (λ p. omega arith))

  pub agree_on_bits : Does call Read Bit → AgreeOnBits call other → SameReply a b
  agree_on_bits bits agree = alike_by (λ width accepted does. run_over width (same_bit agree width (sym bits ∙ does)))

  pub no_read : (AcceptedRead call a → ⊥) → SameReply a b
  no_read none = alike_by (λ width accepted does shown s. absurd (none accepted))
