-- Each call has an answer that the slave's contract allows, if no word of the image has more than sixteen bits.
-- Assumes nothing.
use mathlib.Core.Path.{◌≡◌, refl}
use mathlib.Core.Bool.{Bool, true, false}
use mathlib.Core.List.{List, ◌∷◌}
use Prim.Native.Nat.{ℕ, ◌+◌, ◌<◌}
use native.Mathlib.Omega.{arith}
use lib.Dec.{eqb}
use lib.ListN.{length}
use Rattle.check_word.specs.Frame.{framed}
use Rattle.registers.specs.Memory.{word_bits, byte_bits, bit, bit_among, image_word, image_bit, FitIn, from}
use Rattle.registers.specs.Packing.{packed_bit, packed_word}
use Rattle.registers.specs.Calls.{bit_value}
use Rattle.frames.specs.declared.Act.{Act}
use Rattle.frames.specs.declared.Act.TheVariants.{Read, WriteOne, WriteRun}
use Rattle.frames.specs.declared.Width.{Width}
use Rattle.frames.specs.declared.Width.TheVariants.{Bit, Word}
use Rattle.std.specs.Prelude.{Option, Some, None}
use Rattle.frames.specs.Fields.{function_field, quantity_field, value_field, data_field, up_to_quantity}
use Rattle.frames.specs.Functions.{function_of}
use Rattle.frames.specs.Limits.{quantity, bytes_for, on}
use Rattle.slave.specs.declared.Outcome.{Outcome}
use Rattle.slave.specs.declared.Outcome.TheVariants.{Refused, Silent, Exception, Reply}
use Rattle.slave.specs.Numbers.{kind_of}
use Rattle.slave.specs.Conditions.{OfFound}
use Rattle.slave.specs.Table.{FirstDecides}
use Rattle.slave.specs.Deciding.{Reads}
use Rattle.slave.specs.Carrying.{Inside}
use Rattle.slave.specs.Answer.{Shown, over, ReplyTo, ImageAfter, Call, Answer, Answers}
use Rattle.slave.proofs.Lines.{NoneApplies}
use Rattle.slave.proofs.Accepted.{possible, no_line}
use Rattle.demands.specs.Terms.{lines_of, first_of}
use Rattle.demands.proofs.Left.{IsDone, LeftBy}
use Rattle.demands.proofs.SomeOutcome.{some_outcome}
use Rattle.demands.proofs.Packable.{Bits, bits_packable, words_packable}
use Rattle.demands.proofs.Storable.{bits_storable, words_storable}

-- ---- an accepted request

among_bits : (width : ℕ) (numbers : ℕ → ℕ) → Bits (bit_among width numbers)
unfolding bit_among bit
among_bits width numbers n = omega arith

value_bit : (b : Bool) → bit_value b < 2
value_bit true = omega arith
value_bit false = omega arith

shown_exists : (width : Width) (first count : ℕ) (image : List ℕ) → FitIn word_bits image
    → (shown : List ℕ) × Shown width first count image shown
shown_exists Bit first count image fit =
    bits_packable count (from first (image_bit image)) (λ n. among_bits word_bits (image_word image) (first + n))
shown_exists Word first count image fit = words_packable count (from first (image_word image)) (λ n. fit (first + n))

module _ (first : ℕ) (frame image : List ℕ) (fit : FitIn word_bits image) where
  reply_exists : (own : ℕ) (act : Act) (width : Width) → (bytes : List ℕ) × ReplyTo own first frame image act width bytes
  reply_exists own Read width =
      let (shown, are) = shown_exists width first (quantity_field frame) image fit in
      (framed (own ∷ function_field frame ∷ bytes_for width (quantity_field frame) ∷ shown), (shown, are, refl))
  reply_exists own WriteOne width = (frame, refl)
  reply_exists own WriteRun width = (framed (up_to_quantity frame), refl)

  stored_exists : (act : Act) (width : Width) → Inside width (length image) first (quantity act frame)
      → (after : List ℕ) × ImageAfter first frame image act width after
  stored_exists Read width inside = (image, refl)
  stored_exists WriteOne Bit inside =
      let value = eqb (value_field frame) on in
      bits_storable first 1 (λ n. bit_value value) image (λ n. value_bit value) fit inside
  stored_exists WriteOne Word inside = words_storable first 1 (λ n. value_field frame) image inside
  stored_exists WriteRun Bit inside =
      bits_storable first (quantity_field frame) (packed_bit (data_field frame)) image (among_bits byte_bits _) fit inside
  stored_exists WriteRun Word inside =
      words_storable first (quantity_field frame) (packed_word (data_field frame)) image inside

-- ---- each outcome

module _ (call : Call) (fit : FitIn word_bits call.image) where
  -- the tenth line, E1, says that the function is not in the table
  done_exists : NoneApplies (lines_of call) → (lookup : Option (Act × Width)) → function_of (function_field call.frame) ≡ lookup
      → (n : ℕ) × (image : List ℕ) × (reply : List ℕ) × OfFound lookup (IsDone call n image reply)
  done_exists none None is = absurd (none.1.1.1.1.1.1.1.1.1.0 is)
  done_exists none (Some (act, width)) is =
      let frame = call.frame in
      let first = first_of call in
      let reads : Reads call.station frame (record { act = act; width = width; first = first; count = quantity act frame }) =
      record { function = is; first = refl; count = refl } in
      let can = possible call.station call.areas (length call.image) (length call.reply) frame _ none reads in
      let (bytes, are) = reply_exists first frame call.image fit call.station.own act width in
      let (after, stored) = stored_exists first frame call.image fit act width can.inside in
      let done : IsDone call (length bytes) after (over bytes call.reply) act width =
      record { bytes = bytes; are_the_reply = are; told = refl; written = refl; stored = stored } in
      (length bytes, after, over bytes call.reply, done)

  answered : (outcome : Outcome) (image reply : List ℕ) → FirstDecides (lines_of call) (kind_of outcome)
      → LeftBy call outcome image reply
      → (answer : Answer) × Answers call answer
  answered outcome image reply decided left =
      (record { outcome = outcome; image = image; reply = reply }, record { decided = decided; left = left })

  answer_exists : (outcome : Outcome) → FirstDecides (lines_of call) (kind_of outcome) → (answer : Answer) × Answers call answer
  answer_exists (Refused why) decided = answered (Refused why) _ _ decided (refl, refl)
  answer_exists (Silent why) decided = answered (Silent why) _ _ decided (refl, refl)
  answer_exists (Exception code) decided = answered (Exception code) _ _ decided (refl, refl)
  answer_exists (Reply any) decided =
      let (n, image, reply, done) = done_exists (no_line _ _ _ _ _ decided) (function_of (function_field call.frame)) refl in
      answered (Reply n) image reply decided done

pub answerable : (call : Call) → FitIn word_bits call.image → (answer : Answer) × Answers call answer
answerable call fit =
    let given = some_outcome call.station call.areas (length call.image) (length call.reply) call.frame in
    answer_exists call fit given.outcome given.decided
