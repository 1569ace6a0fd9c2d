-- What an answer leaves, taken out of the promise by its outcome; and the outcome by its kind.
-- Assumes nothing.
use mathlib.Core.Path.{◌≡◌, refl, sym, ap, subst, ◌∙◌}
use mathlib.Core.Logic.{◌≢◌}
use mathlib.Core.List.{List}
use Prim.Native.Nat.{ℕ, ◌≤◌}
use native.Mathlib.Omega.{arith}
use lib.ListN.{length, take, drop, length-append, length-drop}
use lib.Seq.{take_at, drop_at}
use Rattle.frames.specs.declared.Act.{Act}
use Rattle.frames.specs.declared.Width.{Width}
use Rattle.std.specs.Prelude.{Option, Some, None}
use Rattle.frames.specs.Fields.{function_field}
use Rattle.frames.specs.Functions.{function_of}
use Rattle.slave.specs.declared.Refusal.{Refusal}
use Rattle.slave.specs.declared.Silence.{Silence}
use Rattle.slave.specs.declared.Outcome.{Outcome}
use Rattle.slave.specs.declared.Outcome.TheVariants.{Refused, Silent, Exception, Reply}
use Rattle.slave.specs.Numbers.{silence, accepted, kind_of}
use Rattle.slave.specs.Conditions.{OfFound}
use Rattle.slave.specs.Answer.{over, Done, Leaves, Call, Answer, to_send, Answers}
use Rattle.slave.proofs.Cases.{kind_place, apart}
use Rattle.demands.specs.Terms.{Does, first_of, KeptBeyond, sent}

-- ---- an outcome by its kind

pub not_refused : (outcome : Outcome) → ((why : Refusal) → outcome ≢ Refused why) → kind_place (kind_of outcome) ≢ 0
not_refused (Refused why) other e = other why refl
not_refused (Silent why) other e = omega arith
not_refused (Exception code) other e = omega arith
not_refused (Reply n) other e = omega arith

pub is_silent : (outcome : Outcome) (n : ℕ) → kind_of outcome ≡ silence n → (why : Silence) × (outcome ≡ Silent why)
is_silent (Refused why) n e = absurd (apart kind_place e refl (λ p. omega arith))
is_silent (Silent why) n e = (why, refl)
is_silent (Exception code) n e = absurd (apart kind_place e refl (λ p. omega arith))
is_silent (Reply length) n e = absurd (apart kind_place e refl (λ p. omega arith))

pub is_reply : (outcome : Outcome) → kind_of outcome ≡ accepted → (n : ℕ) × (outcome ≡ Reply n)
is_reply (Refused why) e = absurd (apart kind_place e refl (λ p. omega arith))
is_reply (Silent why) e = absurd (apart kind_place e refl (λ p. omega arith))
is_reply (Exception code) e = absurd (apart kind_place e refl (λ p. omega arith))
is_reply (Reply n) e = (n, refl)

-- ---- bytes written over the start of a buffer

pub kept_beyond : (bytes before after : List ℕ) (n : ℕ) → n ≡ length bytes → n ≤ length before → after ≡ over bytes before
    → KeptBeyond n before after
kept_beyond bytes before after n size room is = record {
  room = room;
  as_long = ap length is ∙ length-append bytes (drop (length bytes) before) ∙ omega (arith, length-drop (length bytes) before);
  beyond = ap (drop n) is ∙ drop_at bytes (drop (length bytes) before) n (sym size) ∙ ap (λ (k : ℕ). drop k before) (sym size);
}

-- they are what is sent
pub sent_is : (answer : Answer) (bytes before : List ℕ) → to_send answer.outcome ≡ length bytes
    → answer.reply ≡ over bytes before → sent answer ≡ bytes
sent_is answer bytes before size is =
    ap (take (to_send answer.outcome)) is ∙ take_at bytes (drop (length bytes) before) _ (sym size)

-- ---- the promise at an outcome, and at a function

-- a fact on the frame's function names that function
pub function_found : (lookup : Option (Act × Width)) (Such : Act → Width → Type 0) → OfFound lookup Such
    → (act : Act) × (width : Width) × (lookup ≡ Some (act, width)) × Such act width
function_found (Some (act, width)) Such such = (act, width, refl, such)
function_found None Such such = absurd such

-- an accepted request was carried out, with this image and this reply buffer after it
abbrev pub IsDone : Call → ℕ → List ℕ → List ℕ → Act → Width → Type 0
IsDone call n image reply act width =
    Done call.station.own (first_of call) call.frame call.image call.reply act width n image reply

-- a call leaves this image and this reply buffer, by its outcome
abbrev pub LeftBy : Call → Outcome → List ℕ → List ℕ → Type 0
LeftBy call = Leaves call.station call.frame call.image call.reply

module _ (call : Call) (answer : Answer) (answers : Answers call answer) where
  pub left_by : (outcome : Outcome) → answer.outcome ≡ outcome → LeftBy call outcome answer.image answer.reply
  left_by outcome is = subst (λ (o : Outcome). LeftBy call o answer.image answer.reply) is answers.left

  pub done : (n : ℕ) → answer.outcome ≡ Reply n → (act : Act) (width : Width) → Does call act width
      → IsDone call n answer.image answer.reply act width
  done n is act width does = rw does at (left_by (Reply n) is)

  pub done_by : (n : ℕ) → answer.outcome ≡ Reply n
      → (act : Act) × (width : Width) × Does call act width × IsDone call n answer.image answer.reply act width
  done_by n is =
      function_found (function_of (function_field call.frame)) (IsDone call n answer.image answer.reply) (left_by (Reply n) is)

  -- what was written is sent
  pub done_sent : (n : ℕ) → answer.outcome ≡ Reply n → (act : Act) (width : Width)
      → (carried : IsDone call n answer.image answer.reply act width) → sent answer ≡ carried.bytes
  done_sent n is act width carried = sent_is answer carried.bytes call.reply (ap to_send is ∙ carried.told) carried.written
