-- What the bench station decides, line after line of the answer table, and what it answers by that.
-- Assumes nothing.
use mathlib.Core.Path.{◌≡◌, refl, sym, ap, ◌∙◌}
use mathlib.Core.Logic.{◌⊎◌, inl, inr, ⊎_elim}
use mathlib.Core.List.{List, [], ◌∷◌}
use Prim.Native.Nat.{ℕ, ◌+◌, ◌≤◌, ◌<◌}
use native.Mathlib.Omega.{arith}
use lib.ListN.{length, drop}
use Rattle.check_word.specs.Frame.{shortest, longest, framed}
use Rattle.check_word.proofs.Laws as check-word
use Rattle.registers.specs.Packing.{high_first}
use Rattle.areas.specs.declared.Verdict.{Verdict}
use Rattle.areas.specs.declared.Verdict.TheVariants.{AllReadWrite}
use Rattle.areas.proofs.Witnesses as areas-of
use Rattle.frames.specs.declared.Act.{Act}
use Rattle.frames.specs.declared.Act.TheVariants.{Read, WriteOne, WriteRun}
use Rattle.frames.specs.declared.Width.{Width}
use Rattle.frames.specs.declared.Width.TheVariants.{Bit, Word}
use Rattle.std.specs.Prelude.{Some}
use Rattle.frames.specs.declared.Code.{Code}
use Rattle.frames.specs.Fields.{number, function_field, start_field, quantity_field, value_field, byte_count_field}
use Rattle.frames.specs.Functions.{function_of}
use Rattle.frames.specs.Limits.{quantity, most_of_a_run, most, bytes_for, request_length, BitValue}
use Rattle.frames.specs.Exceptions.{code_number, exception_frame}
use Rattle.slave.specs.declared.Counting.{Counting}
use Rattle.slave.specs.declared.Counting.TheVariants.{ModBus, JBus}
use Rattle.slave.specs.declared.State.{State}
use Rattle.slave.specs.declared.State.TheVariants.{Ready}
use Rattle.slave.specs.declared.Refusal.{Refusal}
use Rattle.slave.specs.declared.Silence.{Silence}
use Rattle.slave.specs.declared.Outcome.TheVariants.{Refused, Silent}
use Rattle.slave.specs.Numbers.{Kind, refused, silence, exception, accepted, refusal_number, silence_number}
use Rattle.slave.specs.Conditions.{counted_from0, most_image_words, BreaksARule, least_room, OutOfLimits, AddressedBy}
use Rattle.slave.specs.Table.{Line, FirstDecides}
use Rattle.slave.specs.Carrying.{Inside}
use Rattle.slave.specs.Deciding.{kind_decided, JudgedBy, by_verdict}
use Rattle.slave.specs.Answer.{Call, Shown, over, ReplyTo, ImageAfter}
use Rattle.slave.specs.Examples.{areas}
use Rattle.slave.proofs.Cases.{act_place, width_place, lookup_place, state_place, counting_place, apart}
use Rattle.slave.proofs.Reply.{framed_length}
use Rattle.slave.proofs.Judging.{by_verdict_lem}
use Rattle.demands.specs.Terms.{lines_of, first_of, request}
use Rattle.demands.specs.Bench.{image, room, bench, Told, Excepted, Replied}
use Rattle.demands.proofs.Left.{IsDone}
use Rattle.demands.proofs.TwoStarts.{restarted_start}

-- ---- what is decided is answered

pub told_refused : (call : Call) (why : Refusal) → FirstDecides (lines_of call) (refused (refusal_number why))
    → Told call (Refused why)
told_refused call why first = record { decided = first; left = (refl, refl) }

pub told_silent : (call : Call) (why : Silence) → FirstDecides (lines_of call) (silence (silence_number why))
    → Told call (Silent why)
told_silent call why first = record { decided = first; left = (refl, refl) }

pub excepted : (call : Call) (code : Code) → FirstDecides (lines_of call) (exception (code_number code))
    → Excepted call code (exception_frame call.station.own (function_field call.frame) (code_number code))
excepted call code first = record { decided = first; left = (refl, refl) }

-- ---- lines 1 to 4

pub own_set : ◌≡◌ {A = ℕ} 20 0 → ⊥
own_set e = omega arith

pub image_sized : (◌≡◌ {A = ℕ} 16 0) ⊎ (most_image_words < 16) → ⊥
image_sized = ⊎_elim (λ e. omega arith) (λ h. omega arith)

pub areas_kept : BreaksARule areas 16 → ⊥
areas_kept broken = broken areas-of.bench_kept

-- ---- lines 10 and 11

module _ (counting : Counting) (state : State) where
  abbrev lines : List ℕ → List Line
  lines frame = lines_of (bench counting state frame)

  pub past_settings : {frame : List ℕ} {kind : Kind} → FirstDecides (drop 4 (lines frame)) kind → FirstDecides (lines frame) kind
  past_settings later = inr (own_set, inr (image_sized, inr (areas_kept, inr (λ few. omega arith, later))))

  pub past_length : {frame : List ℕ} {kind : Kind} → shortest ≤ length frame → length frame ≤ longest
      → FirstDecides (drop 5 (lines frame)) kind → FirstDecides (lines frame) kind
  past_length enough fits later = past_settings (inr (⊎_elim (λ few. omega arith) (λ many. omega arith), later))

  -- a body of any station with its check word behind it
  pub past_check_word : (body : List ℕ) {kind : Kind} → 2 ≤ length body → length body ≤ 254
      → FirstDecides (drop 6 (lines (framed body))) kind → FirstDecides (lines (framed body)) kind
  past_check_word body enough fits later =
      past_length (omega (arith, framed_length body)) (omega (arith, framed_length body))
      (inr (λ wrong. wrong (check-word.Framing body), later))

-- ---- lines 12 to E3

-- what the limits ask beside the most, by what is done
abbrev Limits : Act → Width → List ℕ → Type 0
Limits Read width frame = Unit
Limits WriteOne Bit frame = BitValue (value_field frame)
Limits WriteOne Word frame = Unit
Limits WriteRun width frame = byte_count_field frame ≡ bytes_for width (quantity_field frame)

limits_kept : (act : Act) (width : Width) (frame : List ℕ) → quantity act frame ≤ most act width → Limits act width frame
    → OutOfLimits frame act width → ⊥
limits_kept act width frame at_most limits (inl over) = omega arith
limits_kept Read width frame at_most limits (inr (inl run)) = apart act_place refl run.0 (omega arith)
limits_kept Read width frame at_most limits (inr (inr one)) = apart act_place refl one.0 (omega arith)
limits_kept WriteOne width frame at_most limits (inr (inl run)) = apart act_place refl run.0 (omega arith)
limits_kept WriteOne Bit frame at_most limits (inr (inr one)) = one.2 limits
limits_kept WriteOne Word frame at_most limits (inr (inr one)) = apart width_place refl one.1 (omega arith)
limits_kept WriteRun width frame at_most limits (inr (inl run)) = run.1 limits
limits_kept WriteRun width frame at_most limits (inr (inr one)) = apart act_place refl one.0 (omega arith)

-- a body with its check word behind it, to the bench station
abbrev ours : ℕ → List ℕ → List ℕ
ours function rest = framed (20 ∷ function ∷ rest)

module _ (function : ℕ) (rest : List ℕ) (fits : length rest ≤ 252) where
  pub past_address : (counting : Counting) (state : State) {kind : Kind}
      → FirstDecides (drop 7 (lines counting state (ours function rest))) kind
      → FirstDecides (lines counting state (ours function rest)) kind
  past_address counting state later =
      past_check_word counting state (20 ∷ function ∷ rest) (omega arith) (omega arith)
      (inr (⊎_elim (λ e. omega arith) (λ other. other refl), later))

  pub past_state : (counting : Counting) {kind : Kind} → FirstDecides (drop 9 (lines counting Ready (ours function rest))) kind
      → FirstDecides (lines counting Ready (ours function rest)) kind
  past_state counting later =
      past_address counting Ready
      (inr (λ e. apart state_place refl e (omega arith), inr (λ e. apart state_place refl e (omega arith), later)))

  module _ (counting : Counting) (act : Act) (width : Width) (found : function_of function ≡ Some (act, width)) where
    abbrev ready : List Line
    ready = lines counting Ready (ours function rest)

    pub past_function : {kind : Kind} → FirstDecides (drop 10 ready) kind → FirstDecides ready kind
    past_function later = past_state counting (inr (λ none. apart lookup_place found none (omega arith), later))

    module _ (long : length (ours function rest) ≡ request_length act (ours function rest)) where
      pub past_request_length : {kind : Kind} → FirstDecides (drop 11 ready) kind → FirstDecides ready kind
      past_request_length later = past_function (inr (λ other. (rw found at other) long, later))

      module _ (some : 1 ≤ quantity act (ours function rest)) where
        pub past_quantity : {kind : Kind} → FirstDecides (drop 12 ready) kind → FirstDecides ready kind
        past_quantity later = past_request_length (inr (λ none. omega (arith, some, rw found at none), later))

        pub past_limits : {kind : Kind} → quantity act (ours function rest) ≤ most act width → Limits act width (ours function rest)
            → FirstDecides (drop 13 ready) kind → FirstDecides ready kind
        past_limits at_most limits later =
            past_quantity (inr (λ out. limits_kept act width (ours function rest) at_most limits (rw found at out), later))

-- ---- lines E2 and E8

-- the start in the frame for a first address counted from 0
abbrev pub start_for : Counting → ℕ → ℕ
start_for ModBus first = first
start_for JBus first = first + 1

counted_back : (counting : Counting) (first : ℕ) → counted_from0 counting (start_for counting first) ≡ first
counted_back ModBus first = refl
counted_back JBus first = omega arith

names_something : (counting : Counting) (first : ℕ) → counting ≡ JBus → start_for counting first ≡ 0 → ⊥
names_something ModBus first is zero = apart counting_place refl is (omega arith)
names_something JBus first is zero = omega arith

-- words 0 to 7 may be read and written
below_8 : (width : Width) (first count word : ℕ) → Inside width 8 first count → AddressedBy width first count word → word < 8
below_8 Bit first count word inside (bit, among, of) = omega arith
below_8 Word first count word inside among = omega arith

all_read_write : (width : Width) (first count : ℕ) → Inside width 8 first count
    → JudgedBy areas (AddressedBy width first count) AllReadWrite
all_read_write width first count inside = (
  λ (word, addressed, none). (areas-of.bench_0_to_7).0 (word, (omega arith, below_8 width first count word inside addressed), none),
  λ (word, addressed, of). (areas-of.bench_0_to_7).1 (word, (omega arith, below_8 width first count word inside addressed), of),
)

module _ (counting : Counting) (act : Act) (width : Width) (function first : ℕ) (rest : List ℕ)
    (found : function_of function ≡ Some (act, width)) where
  abbrev asked : List ℕ
  asked = request 20 function (start_for counting first) rest

  start_read : start_field asked ≡ start_for counting first
  start_read = restarted_start 20 function rest (start_for counting first)

  first_read : first_of (bench counting Ready asked) ≡ first
  first_read = ap (counted_from0 counting) start_read ∙ counted_back counting first

  pub replied_if : FirstDecides (lines_of (bench counting Ready asked)) accepted → (bytes after : List ℕ)
      → ReplyTo 20 first asked image act width bytes → ImageAfter first asked image act width after
      → Replied (bench counting Ready asked) bytes after
  replied_if decided bytes after reply stored =
      let done : IsDone (bench counting Ready asked) (length bytes) after (over bytes (room least_room)) act width =
      record {
        bytes = bytes;
        are_the_reply = rw first_read reply;
        told = refl;
        written = refl;
        stored = rw first_read stored;
      } in
      record { decided = decided; left = rw found done }

  module _ (fits : length rest ≤ 250) (long : length asked ≡ request_length act asked) (some : 1 ≤ quantity act asked)
      (at_most : quantity act asked ≤ most act width) (limits : Limits act width asked) where
    -- a verdict on the addressed words decides
    pub by_judging : (verdict : Verdict) → JudgedBy areas (AddressedBy width first (quantity act asked)) verdict
        → FirstDecides (lines_of (bench counting Ready asked))
        (kind_decided (by_verdict verdict (record { act = act; width = width; first = first; count = quantity act asked })))
    by_judging verdict judged =
        past_limits function (_ ∷ _ ∷ rest) (omega arith) counting act width found long some at_most limits
        (by_verdict_lem (bench counting Ready asked).station asked _
        (record { function = found; first = sym first_read; count = refl }) areas
        (λ nothing. names_something counting first nothing.0 (sym start_read ∙ nothing.1)) verdict judged).kind

    -- words 0 to 7 alone are addressed
    pub replied : Inside width 8 first (quantity act asked) → (bytes after : List ℕ)
        → ReplyTo 20 first asked image act width bytes → ImageAfter first asked image act width after
        → Replied (bench counting Ready asked) bytes after
    replied inside = replied_if (by_judging AllReadWrite (all_read_write width first (quantity act asked) inside))

-- a read of as many bits or words as two bytes say
pub read : (counting : Counting) (width : Width) (function first high low : ℕ) (shown : List ℕ)
    → function_of function ≡ Some (Read, width) → 1 ≤ high_first high low → high_first high low ≤ most_of_a_run width
    → Inside width 8 first (high_first high low) → Shown width first (high_first high low) image shown
    → Replied (bench counting Ready (request 20 function (start_for counting first) (high ∷ low ∷ [])))
    (framed (20 ∷ function ∷ bytes_for width (high_first high low) ∷ shown)) image
unfolding number
read counting width function first high low shown found some at_most inside shows =
    replied counting Read width function first (high ∷ low ∷ []) found (omega arith) refl some at_most tt inside _ image
    (shown, shows, refl) refl
