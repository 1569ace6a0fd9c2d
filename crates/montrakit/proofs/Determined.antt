-- One call has one answer.
-- Assumes nothing.
use mathlib.Core.Path.{◌≡◌, refl, sym, ap, subst, ◌∙◌}
use mathlib.Core.Logic.{inl, inr}
use mathlib.Core.List.{List}
use Prim.Native.Nat.{ℕ}
use native.Mathlib.Omega.{arith}
use lib.ListN.{length}
use Rattle.promise.specs.Promise.{Determined}
use Rattle.areas.specs.declared.Area.{Area}
use Rattle.areas.specs.Words.{StandFor}
use Rattle.slave.specs.declared.Counting.{Counting}
use Rattle.slave.specs.declared.Counting.TheVariants.{ModBus, JBus}
use Rattle.slave.specs.declared.State.{State}
use Rattle.slave.specs.declared.State.TheVariants.{Ready, NotReady, AtTheKeyboard}
use Rattle.slave.specs.declared.Station.{Station}
use Rattle.slave.specs.declared.Outcome.{Outcome}
use Rattle.slave.specs.Answer as slave
use Rattle.slave.proofs.Laws as slave-laws
use Rattle.slave.proofs.Broken.{broken_alike}
use Rattle.master.specs.declared.Function.{Function}
use Rattle.std.specs.Prelude.{Result}
use Rattle.master.specs.declared.Refusal.{Refusal}
use Rattle.master.specs.declared.Reading.{Reading}
use Rattle.master.proofs.Lines.{refused_determined, refused_or_not}
use Rattle.master.proofs.Laws as master-laws
use Rattle.montrakit.specs.Meanings.{counting_byte, state_byte}
use Rattle.montrakit.specs.Results.{result, bad_argument, outcome_result, built_result, reading_result}
use Rattle.montrakit.specs.Responding.{bad_arguments, Bad, Settings, Answered, Respond}
use Rattle.montrakit.specs.Mastering.{request_of, OfNumber}
use Rattle.montrakit.specs.Laws as laws
use Rattle.areas.proofs.Words.{one_list}

-- ---- the settings

counting_apart : (a b : Counting) → counting_byte a ≡ counting_byte b → a ≡ b
counting_apart ModBus ModBus e = refl
counting_apart ModBus JBus e = absurd (omega (arith, e))
counting_apart JBus ModBus e = absurd (omega (arith, e))
counting_apart JBus JBus e = refl

state_apart : (a b : State) → state_byte a ≡ state_byte b → a ≡ b
state_apart Ready Ready e = refl
state_apart Ready NotReady e = absurd (omega (arith, e))
state_apart Ready AtTheKeyboard e = absurd (omega (arith, e))
state_apart NotReady Ready e = absurd (omega (arith, e))
state_apart NotReady NotReady e = refl
state_apart NotReady AtTheKeyboard e = absurd (omega (arith, e))
state_apart AtTheKeyboard Ready e = absurd (omega (arith, e))
state_apart AtTheKeyboard NotReady e = absurd (omega (arith, e))
state_apart AtTheKeyboard AtTheKeyboard e = refl

one_station : (own counting state : ℕ) → Determined (Settings own counting state)
one_station own counting state a b p q =
    let own-address = p.address ∙ sym q.address in
    let counts = counting_apart a.counting b.counting (p.counts ∙ sym q.counts) in
    let does = state_apart a.state b.state (p.does ∙ sym q.does) in
    λ i. record { own = own-address i; counting = counts i; state = does i }

-- ---- `montrakit_respond`

module _ (own counting state : ℕ) (words frame image reply : List ℕ) where
  -- whichever list the words stand for, it is answered alike
  other_list : (station : Station) (a b : List Area) → StandFor words (length image) a → StandFor words (length image) b
      → (outcome : Outcome) (image_after reply_after : List ℕ)
      → slave.Respond station a frame image reply outcome image_after reply_after
      → slave.Respond station b frame image reply outcome image_after reply_after
  other_list station a b (inl p) (inl q) outcome i r answers =
      subst (λ (areas : List Area). slave.Respond station areas frame image reply outcome i r) (one_list a b (p ∙ sym q)) answers
  other_list station a b (inl p) (inr q) outcome i r answers = absurd (q.0 a p)
  other_list station a b (inr p) (inl q) outcome i r answers = absurd (p.0 b q)
  other_list station a b (inr p) (inr q) outcome i r answers =
      broken_alike station a b frame image reply outcome i r p.1 q.1 answers

  abbrev Told : ℕ × List ℕ × List ℕ → Type 0
  Told a = Respond own counting state words frame image reply a.0 a.1 a.2

  -- an argument is bad, or the station has it
  bad_or_answered : (t u : ℕ) (i r j s : List ℕ) → Bad counting state image reply t i r
      → Answered own counting state words frame image reply u j s → ⊥
  bad_or_answered t u i r j s bad answered =
      refused_or_not (bad_arguments counting state) bad.number bad.first (
        λ none. none answered.station.counting answered.settings.counts,
        (λ none. none answered.station.state answered.settings.does, tt),
      )

  -- the slave's answer for two lists and stations that the arguments stand for
  answered_determined : (t u : ℕ) (i r j s : List ℕ) → Answered own counting state words frame image reply t i r
      → Answered own counting state words frame image reply u j s → (t ≡ u) × (i ≡ j) × (r ≡ s)
  answered_determined t u i r j s p q =
      let stations = one_station own counting state q.station p.station q.settings p.settings in
      let other = other_list q.station q.areas p.areas q.meant p.meant q.outcome j s q.answers in
      let answers = subst
      (λ (station : Station). slave.Respond station p.areas frame image reply q.outcome j s) stations other in
      let same = slave-laws.RespondDetermined
      (record { station = p.station; areas = p.areas; frame = frame; image = image; reply = reply })
      (record { outcome = p.outcome; image = i; reply = r }) (record { outcome = q.outcome; image = j; reply = s })
      p.answers answers in (
        p.told_as ∙ ap (λ (a : slave.Answer). outcome_result a.outcome) same ∙ sym q.told_as,
        ap (λ (a : slave.Answer). a.image) same,
        ap (λ (a : slave.Answer). a.reply) same,
      )

  pub respond_determined : Determined Told
  respond_determined (t, i, r) (u, j, s) (inl p) (inl q) =
      let number = refused_determined (bad_arguments counting state) p.number q.number p.first q.first in
      let told = p.told_as ∙ ap (result bad_argument) number ∙ sym q.told_as in
      cc (told, p.image_kept, q.image_kept, p.reply_kept, q.reply_kept)
  respond_determined (t, i, r) (u, j, s) (inl p) (inr q) = absurd (bad_or_answered t u i r j s p q)
  respond_determined (t, i, r) (u, j, s) (inr p) (inl q) = absurd (bad_or_answered u t j s i r q p)
  respond_determined (t, i, r) (u, j, s) (inr p) (inr q) =
      let (told, images, replies) = answered_determined t u i r j s p q in
      cc (told, images, replies)

-- ---- `montrakit_build` and `montrakit_read`

-- a number names one function or none, and what each function tells and leaves is one thing
of_number_determined : (number : ℕ) (before : List ℕ) (Such : Function → ℕ → List ℕ → Type 0)
    → ((function : Function) → Determined (λ (a : ℕ × List ℕ). Such function a.0 a.1))
    → Determined (λ (a : ℕ × List ℕ). OfNumber number before Such a.0 a.1)
of_number_determined number before Such one (t, a) (u, b) (inl p) (inl q) = cc (p.1, q.1, p.2, q.2)
of_number_determined number before Such one (t, a) (u, b) (inl p) (inr q) = absurd (p.0 q.0 q.1)
of_number_determined number before Such one (t, a) (u, b) (inr p) (inl q) = absurd (q.0 p.0 p.1)
of_number_determined number before Such one (t, a) (u, b) (inr p) (inr q) =
    let same = master-laws.FunctionsApart q.0 p.0 (q.1 ∙ sym p.1) in
    one p.0 (t, a) (u, b) p.2 (subst (λ (function : Function). Such function u b) same q.2)

pub build_determined : laws.BuildDetermined
build_determined station number start value carried before = of_number_determined number before _ (λ function a b p q.
    let same = master-laws.BuildDetermined (request_of station function start value) carried before (p.0, a.1) (q.0, b.1) p.1 q.1 in
    let told = p.2 ∙ ap (λ (x : Result ℕ Refusal × List ℕ). built_result x.0) same ∙ sym q.2 in
    λ i. (told i, (same i).1))

pub read_determined : laws.ReadDetermined
read_determined station number start value reply before = of_number_determined number before _ (λ function a b p q.
    let same = master-laws.ReadReplyDetermined (request_of station function start value) reply before (p.0, a.1) (q.0, b.1) p.1 q.1 in
    let told = p.2 ∙ ap (λ (x : Result Reading Refusal × List ℕ). reading_result x.0) same ∙ sym q.2 in
    λ i. (told i, (same i).1))
