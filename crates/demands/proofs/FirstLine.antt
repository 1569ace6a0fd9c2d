-- The line that decides, by its place in the table.
-- Assumes nothing.
use mathlib.Core.Path.{◌≡◌, refl, sym, ap, ◌∙◌}
use mathlib.Core.Logic.{inl, inr}
use mathlib.Core.List.{List, [], ◌∷◌}
use Prim.Native.Nat.{ℕ, zero, suc, ◌-◌, ◌≤◌}
use native.Mathlib.Omega.{arith}
use lib.ListN.{get_or}
use Rattle.frames.specs.declared.Code.TheVariants.{Function, Address, Value, NotReady, ReadOnly}
use Rattle.slave.specs.declared.Refusal.TheVariants.{OwnAddress, Image, Areas, ReplyBuffer}
use Rattle.slave.specs.declared.Silence.TheVariants.{FrameLength, CheckWord, AnotherStation, AtTheKeyboard, RequestLength, NoQuantity}
use Rattle.slave.specs.declared.Outcome.{Outcome}
use Rattle.slave.specs.declared.Outcome.TheVariants.{Refused, Silent, Exception, Reply}
use Rattle.slave.specs.Numbers.{Kind, refused, silence, exception, accepted, kind_of}
use Rattle.slave.specs.Table.{Line, FirstDecides}
use Rattle.slave.specs.Answer.{Call}
use Rattle.slave.proofs.Stable.{still_at_most}
use Rattle.slave.proofs.Lines.{first_determined}
use Rattle.demands.specs.Terms.{lines_of, given, NoneOfTheFirst, FirstToApply, behind_the_table}
use Rattle.demands.proofs.UpFrom.{up_from, number_up}

-- ---- a line decides that is the first to apply

none_of_more : {When : Type 0} (kind : Kind) (n : ℕ) (lines : List Line) → (When → ⊥) → NoneOfTheFirst n lines
    → NoneOfTheFirst (suc n) ((kind, When) ∷ lines)
none_of_more kind n lines not none zero h applies = not applies
none_of_more kind n lines not none (suc m) h applies = none m (omega arith) applies

pub first_exists : (lines : List Line) (kind : Kind) → FirstDecides lines kind
    → (n : ℕ) × FirstToApply lines n × (kind ≡ given lines n)
first_exists [] kind is = (0, (tt, λ m h applies. omega arith), is)
first_exists ((k, When) ∷ lines) kind (inl (applies, is)) = (0, (applies, λ m h before. omega arith), is)
first_exists ((k, When) ∷ lines) kind (inr (not, later)) =
    let (n, (applies, none), is) = first_exists lines kind later in
    (suc n, (applies, none_of_more k n lines not none), is)

pub first_decides : (lines : List Line) (kind : Kind) (n : ℕ) → FirstToApply lines n → kind ≡ given lines n
    → FirstDecides lines kind
first_decides [] kind n first is = is
first_decides ((k, When) ∷ lines) kind zero first is = inl (first.0, is)
first_decides ((k, When) ∷ lines) kind (suc n) first is =
    inr (first.1 0 (omega arith), first_decides lines kind n (first.0, λ m h. first.1 (suc m) (omega arith)) is)

-- .. and what it gives is decided
pub first_gives : (lines : List Line) (kind : Kind) (n : ℕ) → FirstDecides lines kind → FirstToApply lines n → kind ≡ given lines n
first_gives lines kind n decided first =
    first_determined lines kind (given lines n) decided (first_decides lines (given lines n) n first refl)

-- ---- each line gives another kind or number

-- the place of a kind and number in the table: of silence 10, 11, .., and of exception 1, 2, .. (0 where there is none)
abbrev place : Kind → ℕ
place (refused n) = n - 1
place (silence n) = get_or (4 ∷ 5 ∷ 6 ∷ 7 ∷ 10 ∷ 11 ∷ []) (n - 10) 0
place (exception n) = get_or (9 ∷ 13 ∷ 12 ∷ 8 ∷ 0 ∷ 0 ∷ 0 ∷ 14 ∷ []) (n - 1) 0
place accepted = behind_the_table

abbrev places_of : List Line → List ℕ
places_of [] = behind_the_table ∷ []
places_of ((kind, When) ∷ lines) = place kind ∷ places_of lines

place_given : (lines : List Line) (n : ℕ) → place (given lines n) ≡ get_or (places_of lines) n behind_the_table
place_given [] zero = refl
place_given [] (suc n) = refl
place_given ((kind, When) ∷ lines) zero = refl
place_given ((kind, When) ∷ lines) (suc n) = place_given lines n

module _ (call : Call) where
  table_place : (n : ℕ) → n ≤ behind_the_table → place (given (lines_of call) n) ≡ n
  -- the table computes: its kinds stand in the order of their places
  table_place n few =
      let in_order : places_of (lines_of call) ≡ up_from 0 (suc behind_the_table) = refl in
      place_given (lines_of call) n ∙ ap (λ (places : List ℕ). get_or places n behind_the_table) in_order
      ∙ number_up 0 (suc behind_the_table) n behind_the_table (omega arith) ∙ omega arith

  within : (n : ℕ) → FirstToApply (lines_of call) n → n ≤ behind_the_table
  within n first = still_at_most n behind_the_table (λ behind. first.1 behind_the_table (omega (arith, behind)) tt)

  -- so what a line gives is given where it is the first to apply, and in no other situation
  pub no_other : (kind : Kind) (n : ℕ) → FirstDecides (lines_of call) kind → n ≤ behind_the_table → kind ≡ given (lines_of call) n
      → FirstToApply (lines_of call) n
  no_other kind n decided few is =
      let (m, first, gives) = first_exists (lines_of call) kind decided in
      let same : m ≡ n = sym (table_place m (within m first)) ∙ ap place (sym gives ∙ is) ∙ table_place n few in
      rw (← same) first

  -- each outcome has a line that gives its kind and number
  pub line_of : (outcome : Outcome) → (n : ℕ) × (n ≤ behind_the_table) × (kind_of outcome ≡ given (lines_of call) n)
  line_of (Refused OwnAddress) = (0, omega arith, refl)
  line_of (Refused Image) = (1, omega arith, refl)
  line_of (Refused Areas) = (2, omega arith, refl)
  line_of (Refused ReplyBuffer) = (3, omega arith, refl)
  line_of (Silent FrameLength) = (4, omega arith, refl)
  line_of (Silent CheckWord) = (5, omega arith, refl)
  line_of (Silent AnotherStation) = (6, omega arith, refl)
  line_of (Silent AtTheKeyboard) = (7, omega arith, refl)
  line_of (Exception NotReady) = (8, omega arith, refl)
  line_of (Exception Function) = (9, omega arith, refl)
  line_of (Silent RequestLength) = (10, omega arith, refl)
  line_of (Silent NoQuantity) = (11, omega arith, refl)
  line_of (Exception Value) = (12, omega arith, refl)
  line_of (Exception Address) = (13, omega arith, refl)
  line_of (Exception ReadOnly) = (14, omega arith, refl)
  line_of (Reply length) = (behind_the_table, omega arith, refl)
