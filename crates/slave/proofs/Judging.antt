-- Lines E2 and E8: a verdict on the addressed words decides them.
-- Assumes nothing.
use mathlib.Core.Path.{◌≡◌, refl}
use mathlib.Core.Logic.{inr, ◌≢◌, ⊎_elim}
use mathlib.Core.List.{List}
use Prim.Native.Nat.{ℕ}
use native.Mathlib.Omega.{arith}
use lib.ListN.{drop}
use Rattle.areas.specs.Holding.{InNoArea, OfAreaWith}
use Rattle.areas.specs.declared.Access.TheVariants.{ReadOnly}
use Rattle.areas.specs.declared.Area.{Area}
use Rattle.areas.specs.declared.Verdict.{Verdict}
use Rattle.areas.specs.declared.Verdict.TheVariants.{SomeInNoArea, SomeReadOnly, AllReadWrite}
use Rattle.frames.specs.declared.Act.{Act}
use Rattle.frames.specs.declared.Act.TheVariants.{Read, WriteOne, WriteRun}
use Rattle.slave.specs.declared.Station.{Station}
use Rattle.slave.specs.declared.decide.Request.{Request}
use Rattle.slave.specs.declared.decide.Decision.{Decision}
use Rattle.slave.specs.Conditions.{NamesNothing, AddressedBy, SomeAddressedWord, Writes}
use Rattle.slave.specs.Deciding.{Reads, Decided, area_lines, SomeAddressed, JudgedBy, accept_if_a_read, by_verdict}
use Rattle.slave.proofs.Cases.{act_place, apart}
use Rattle.slave.proofs.Lines.{here, past, accept}

module _ (station : Station) (frame : List ℕ) (request : Request) (reads : Reads station frame request) where
  abbrev Addressed : ℕ → Type 0
  Addressed = AddressedBy request.width request.first request.count

  -- what a request addresses, the frame does
  pub some_addressed : (Such : ℕ → Type 0) → SomeAddressed Addressed Such → SomeAddressedWord station frame Such
  some_addressed Such s = rw (reads.function, ← reads.first, ← reads.count) s

  addressed_some : (Such : ℕ → Type 0) → SomeAddressedWord station frame Such → SomeAddressed Addressed Such
  addressed_some Such s = rw (reads.first, reads.count) (rw reads.function at s)

  writes : request.act ≢ Read → Writes frame
  writes w = rw reads.function w

  no_writes : request.act ≡ Read → Writes frame → ⊥
  no_writes read w = (rw reads.function at w) read

  module _ (areas : List Area) (somewhere : NamesNothing station frame → ⊥) where
    -- behind line E2
    past_areas : {decision : Decision} → (SomeAddressed Addressed (InNoArea areas) → ⊥)
        → Decided (drop 1 (area_lines station frame areas)) station frame decision
        → Decided (area_lines station frame areas) station frame decision
    past_areas held = past (⊎_elim somewhere (λ s. held (addressed_some (InNoArea areas) s)))

    written : request.act ≢ Read → SomeAddressed Addressed (OfAreaWith ReadOnly areas)
        → Decided (drop 1 (area_lines station frame areas)) station frame (accept_if_a_read WriteOne request)
    written write s = here (writes write, some_addressed (OfAreaWith ReadOnly areas) s) refl tt

    by_act : (act : Act) → request.act ≡ act → SomeAddressed Addressed (OfAreaWith ReadOnly areas)
        → Decided (drop 1 (area_lines station frame areas)) station frame (accept_if_a_read act request)
    by_act Read is s = past (λ w. no_writes is w.0) (accept refl reads)
    by_act WriteOne is s = written (λ e. apart act_place is e (omega arith)) s
    by_act WriteRun is s = written (λ e. apart act_place is e (omega arith)) s

    pub by_verdict_lem : (verdict : Verdict) → JudgedBy areas Addressed verdict
        → Decided (area_lines station frame areas) station frame (by_verdict verdict request)
    by_verdict_lem SomeInNoArea j = here (inr (some_addressed (InNoArea areas) j)) refl tt
    by_verdict_lem SomeReadOnly j = past_areas j.0 (by_act request.act refl j.1)
    by_verdict_lem AllReadWrite j =
        past_areas j.0
        (past (λ w. j.1 (addressed_some (OfAreaWith ReadOnly areas) w.1)) (accept refl reads))
