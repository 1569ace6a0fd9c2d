-- What the slave's answer leaves, by the kind that is told.
-- Assumes nothing.
use mathlib.Core.Path.{◌≡◌, refl, ap, ◌∙◌}
use mathlib.Core.Logic.{◌≢◌, inl, inr}
use mathlib.Core.List.{List}
use Prim.Native.Nat.{ℕ, ◌<◌}
use native.Mathlib.Omega.{arith}
use lib.ListN.{length}
use Rattle.check_word.specs.Line.{Damaged}
use Rattle.areas.specs.declared.Area.{Area}
use Rattle.frames.specs.Exceptions.{exception_length}
use Rattle.slave.specs.declared.Station.{Station}
use Rattle.slave.specs.declared.Refusal.{Refusal}
use Rattle.slave.specs.declared.Outcome.{Outcome}
use Rattle.slave.specs.declared.Outcome.TheVariants.{Refused, Silent, Exception, Reply}
use Rattle.slave.specs.Numbers.{Kind, kind_of}
use Rattle.slave.specs.Conditions.{BreaksARule}
use Rattle.slave.specs.Table.{table, FirstDecides}
use Rattle.slave.specs.Answer as slave
use Rattle.slave.proofs.Cases.{kind_place}
use Rattle.master.specs.Refusals.{RefusedBy}
use Rattle.demands.specs.Terms.{KeptBeyond}
use Rattle.demands.proofs.Demands as demands
use Rattle.montrakit.specs.Results.{result, kind_in, number_in, refused, silent, exception, reply, outcome_result}
use Rattle.montrakit.specs.Laws.{before_the_areas}
use Rattle.montrakit.proofs.Results.{kind_and_number, refusal_small, silence_small, code_small}
use Rattle.montrakit.proofs.Fitting.{outcome_fits}

-- what is told of an outcome that is no reply: its kind and number in the table
abbrev kind_result : Kind → ℕ
kind_result (Kind.refused n) = result refused n
kind_result (Kind.silence n) = result silent n
kind_result (Kind.exception n) = result exception n
kind_result Kind.accepted = 0

told_by_kind : (outcome : Outcome) (kind : Kind) → kind_of outcome ≡ kind → kind_place kind < 3 → outcome_result outcome ≡ kind_result kind
told_by_kind outcome kind e other = by outcome (rw e other) ∙ ap kind_result e
  where
    by : (outcome : Outcome) → kind_place (kind_of outcome) < 3 → outcome_result outcome ≡ kind_result (kind_of outcome)
    by (Refused why) other = refl
    by (Silent why) other = refl
    by (Exception code) other = refl
    by (Reply n) other = absurd (omega arith)

module _ (station : Station) (areas : List Area) (frame image buffer : List ℕ) where
  abbrev Answers : Outcome → List ℕ → List ℕ → Type 0
  Answers = slave.Respond station areas frame image buffer

  abbrev call : slave.Call
  call = record { station = station; areas = areas; frame = frame; image = image; reply = buffer }

  abbrev answer : Outcome → List ℕ → List ℕ → slave.Answer
  answer outcome i r = record { outcome = outcome; image = i; reply = r }

  reply_kind : (n : ℕ) (i r : List ℕ) → Answers (Reply n) i r
      → (kind_in (outcome_result (Reply n)) ≡ reply) × (number_in (outcome_result (Reply n)) ≡ n)
  reply_kind n i r answers = kind_and_number reply n (outcome_fits station areas frame image buffer (Reply n) i r answers)

  pub image_kept : (outcome : Outcome) (i r : List ℕ) → Answers outcome i r → kind_in (outcome_result outcome) ≢ reply → i ≡ image
  image_kept (Refused why) i r answers other = answers.left.0
  image_kept (Silent why) i r answers other = answers.left.0
  image_kept (Exception code) i r answers other = answers.left.0
  image_kept (Reply n) i r answers other = absurd (other (reply_kind n i r answers).0)

  pub buffer_kept : (outcome : Outcome) (i r : List ℕ) → Answers outcome i r → kind_in (outcome_result outcome) ≢ reply
      → kind_in (outcome_result outcome) ≢ exception → r ≡ buffer
  buffer_kept (Refused why) i r answers other exceptional = answers.left.1
  buffer_kept (Silent why) i r answers other exceptional = answers.left.1
  buffer_kept (Exception code) i r answers other exceptional =
      absurd (exceptional (kind_and_number exception _ (code_small code)).0)
  buffer_kept (Reply n) i r answers other exceptional = absurd (other (reply_kind n i r answers).0)

  pub behind_an_exception : (outcome : Outcome) (i r : List ℕ) → Answers outcome i r
      → kind_in (outcome_result outcome) ≡ exception → KeptBeyond exception_length buffer r
  behind_an_exception (Refused why) i r answers is =
      absurd (omega (arith, (kind_and_number refused _ (refusal_small why)).0, is))
  behind_an_exception (Silent why) i r answers is =
      absurd (omega (arith, (kind_and_number silent _ (silence_small why)).0, is))
  behind_an_exception (Exception code) i r answers is =
      ((demands.Untouched).excepted call (answer (Exception code) i r) answers code refl).1
  behind_an_exception (Reply n) i r answers is =
      absurd (omega (arith, (reply_kind n i r answers).0, is))

  pub behind_a_reply : (outcome : Outcome) (i r : List ℕ) → Answers outcome i r
      → kind_in (outcome_result outcome) ≡ reply → KeptBeyond (number_in (outcome_result outcome)) buffer r
  behind_a_reply (Refused why) i r answers is =
      absurd (omega (arith, (kind_and_number refused _ (refusal_small why)).0, is))
  behind_a_reply (Silent why) i r answers is =
      absurd (omega (arith, (kind_and_number silent _ (silence_small why)).0, is))
  behind_a_reply (Exception code) i r answers is =
      absurd (omega (arith, (kind_and_number exception _ (code_small code)).0, is))
  behind_a_reply (Reply n) i r answers is =
      rw (reply_kind n i r answers).1 ((demands.Untouched).replied call (answer (Reply n) i r) answers n refl).1

  -- ---- damage

  pub damage_told : (outcome : Outcome) (i r : List ℕ) → Answers outcome i r → (right : List ℕ) → Damaged right frame
      → kind_in (outcome_result outcome) ≢ refused → (outcome_result outcome ≡ result silent 11) × (i ≡ image) × (r ≡ buffer)
  damage_told outcome i r answers right damaged kept =
      let not_refused : (why : Refusal) → outcome ≢ Refused why = λ why e.
      kept (ap (λ (x : Outcome). kind_in (outcome_result x)) e ∙ (kind_and_number refused _ (refusal_small why)).0) in
      let (told, (images, buffers)) = demands.Damage call (answer outcome i r) answers right damaged not_refused in
      (told_by_kind outcome (Kind.silence 11) told (omega arith), images, buffers)

  -- ---- a list that breaks a rule

  pub broken_told : (outcome : Outcome) (i r : List ℕ) → Answers outcome i r → BreaksARule areas (length image)
      → (number : ℕ) × RefusedBy (before_the_areas station.own (length image)) number × (outcome_result outcome ≡ result refused number)
  broken_told outcome i r answers broken = by answers.decided
    where
      by : FirstDecides (table station areas (length image) (length buffer) frame) (kind_of outcome)
          → (number : ℕ) × RefusedBy (before_the_areas station.own (length image)) number
          × (outcome_result outcome ≡ result refused number)
      by (inl (own, e)) = (1, inl (own, refl), told_by_kind outcome (Kind.refused 1) e (omega arith))
      by (inr (own, inl (words, e))) = (2, inr (own, inl (words, refl)), told_by_kind outcome (Kind.refused 2) e (omega arith))
      by (inr (own, inr (words, inl (breaks, e)))) =
          (3, inr (own, inr (words, inl (tt, refl))), told_by_kind outcome (Kind.refused 3) e (omega arith))
      by (inr (own, inr (words, inr (kept, later)))) = absurd (kept broken)
