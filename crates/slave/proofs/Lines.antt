-- The first line that applies decides.
-- Assumes nothing.
use mathlib.Core.Path.{◌≡◌, sym, ap, ◌∙◌}
use mathlib.Core.Logic.{◌⊎◌, inl, inr, ◌≢◌}
use mathlib.Core.Bool.{Bool, true, false, not}
use mathlib.Core.List.{List, [], ◌∷◌}
use Prim.Native.Nat.{ℕ}
use native.Mathlib.Omega.{arith}
use Rattle.promise.specs.Promise.{Determined, Decides}
use Rattle.promise.proofs.Promise.{if_taken, if_left, passed, failed}
use Rattle.slave.specs.declared.Station.{Station}
use Rattle.slave.specs.declared.decide.Decision.{Decision}
use Rattle.slave.specs.Numbers.{Kind, refused, silence, exception, accepted}
use Rattle.slave.specs.Table.{Line, FirstDecides}
use Rattle.slave.specs.Deciding.{kind_decided, ReadsIfAccepted, Decided}
use Rattle.slave.proofs.Cases.{kind_place}

-- ---- one kind is decided, and no other

pub first_determined : (lines : List Line) → Determined (FirstDecides lines)
first_determined [] a b p q = p ∙ sym q
first_determined ((given, When) ∷ lines) a b (inl p) (inl q) = p.1 ∙ sym q.1
first_determined ((given, When) ∷ lines) a b (inl p) (inr q) = absurd (q.0 p.0)
first_determined ((given, When) ∷ lines) a b (inr p) (inl q) = absurd (p.0 q.0)
first_determined ((given, When) ∷ lines) a b (inr p) (inr q) = first_determined lines a b p.1 q.1

-- ---- a request is accepted where no line applies

abbrev pub NoneApplies : List Line → Type 0
NoneApplies [] = Unit
NoneApplies ((given, When) ∷ lines) = (When → ⊥) × NoneApplies lines

-- a line of another kind than what was decided did not apply
pub skipped : {Here Later : Type 0} {given kind : Kind} → kind_place kind ≢ kind_place given
    → (Here × (kind ≡ given)) ⊎ Later → Later
skipped other (inl p) = absurd (other (ap kind_place p.1))
skipped other (inr later) = later

-- no line accepts
abbrev pub NoneAccepts : List Line → Type 0
NoneAccepts [] = Unit
NoneAccepts ((refused n, When) ∷ lines) = NoneAccepts lines
NoneAccepts ((silence n, When) ∷ lines) = NoneAccepts lines
NoneAccepts ((exception n, When) ∷ lines) = NoneAccepts lines
NoneAccepts ((accepted, When) ∷ lines) = ⊥

pub none_applies : (lines : List Line) → NoneAccepts lines → FirstDecides lines accepted → NoneApplies lines
none_applies [] named first = tt
none_applies ((refused n, When) ∷ lines) named first =
    let (not, later) = skipped (λ e. omega arith) first in
    (not, none_applies lines named later)
none_applies ((silence n, When) ∷ lines) named first =
    let (not, later) = skipped (λ e. omega arith) first in
    (not, none_applies lines named later)
none_applies ((exception n, When) ∷ lines) named first =
    let (not, later) = skipped (λ e. omega arith) first in
    (not, none_applies lines named later)
none_applies ((accepted, When) ∷ lines) named first = absurd named

-- ---- a decision, line by line

pub accept : {station : Station} {frame : List ℕ} {decision : Decision} → kind_decided decision ≡ accepted
    → ReadsIfAccepted station frame decision → Decided [] station frame decision
accept is fields = record { kind = is; fields = fields }

module _ {When : Type 0} {lines : List Line} {station : Station} {frame : List ℕ} {decision : Decision} {given : Kind} where
  pub here : When → kind_decided decision ≡ given → ReadsIfAccepted station frame decision
      → Decided ((given, When) ∷ lines) station frame decision
  here applies is fields = record { kind = inl (applies, is); fields = fields }

  pub past : (When → ⊥) → Decided lines station frame decision → Decided ((given, When) ∷ lines) station frame decision
  past not later = record { kind = inr (not, later.kind); fields = later.fields }

  -- behind a test of the code, `if t`, that decides the line
  pub here_if : (t : Bool) → Decides When t → t ≡ true → kind_decided decision ≡ given → ReadsIfAccepted station frame decision
      → Decided ((given, When) ∷ lines) station frame decision
  here_if t says taken = here (if_taken When t says taken)

  pub past_if : (t : Bool) → Decides When t → t ≡ false → Decided lines station frame decision
      → Decided ((given, When) ∷ lines) station frame decision
  past_if t says left = past (if_left When t says left)

-- behind a test `if !t`, where the line applies if the fact fails
module _ {Fact : Type 0} {lines : List Line} {station : Station} {frame : List ℕ} {decision : Decision} {given : Kind} where
  pub here_unless : (t : Bool) → Decides Fact t → not t ≡ true → kind_decided decision ≡ given → ReadsIfAccepted station frame decision
      → Decided ((given, (Fact → ⊥)) ∷ lines) station frame decision
  here_unless t says taken = here (failed Fact t says taken)

  pub past_unless : (t : Bool) → Decides Fact t → not t ≡ false → Decided lines station frame decision
      → Decided ((given, (Fact → ⊥)) ∷ lines) station frame decision
  past_unless t says left = past (λ other. other (passed Fact t says left))
