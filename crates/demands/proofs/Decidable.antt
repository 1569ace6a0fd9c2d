-- Ways to decide: one of two facts, and the cases of an enum.
-- Assumes nothing.
use mathlib.Core.Path.{◌≡◌, refl, ap}
use mathlib.Core.Logic.{◌⊎◌, inl, inr, ⊎_elim}
use mathlib.Core.List.{[], ◌∷◌}
use Prim.Native.Nat.{ℕ}
use native.Mathlib.Decide.{ℕ_discrete, map_dec}
use native.Mathlib.Omega.{arith}
use lib.ListN.{get_or}
use Rattle.promise.proofs.Promise.{back_apart}
use Rattle.frames.specs.declared.Act.{Act}
use Rattle.frames.specs.declared.Act.TheVariants.{Read, WriteOne, WriteRun}
use Rattle.frames.specs.declared.Width.{Width}
use Rattle.frames.specs.declared.Width.TheVariants.{Bit, Word}
use Rattle.std.specs.Prelude.{Option, Some, None}
use Rattle.slave.specs.declared.Counting.{Counting}
use Rattle.slave.specs.declared.Counting.TheVariants.{ModBus, JBus}
use Rattle.slave.specs.declared.State.{State}
use Rattle.slave.specs.declared.State.TheVariants.{Ready, NotReady, AtTheKeyboard}
use Rattle.slave.proofs.Cases.{act_place, width_place, lookup_place, counting_place, state_place, apart}

pub dec_or : {A B : Type 0} → Dec A → Dec B → Dec (A ⊎ B)
dec_or (yes a) told = yes (inl a)
dec_or (no a) (yes b) = yes (inr b)
dec_or (no a) (no b) = no (⊎_elim a b)

-- ---- the cases of an enum

-- by their places, if there is a way back
dec_case : {Case : Type 0} (place : Case → ℕ) (back : ℕ → Case) → ((a : Case) → back (place a) ≡ a) → (a b : Case) → Dec (a ≡ b)
dec_case place back there a b = map_dec (back_apart place back there a b) (ap place) (ℕ_discrete (place a) (place b))

pub dec_act : (a b : Act) → Dec (a ≡ b)
dec_act = dec_case act_place (λ n. get_or (Read ∷ WriteOne ∷ WriteRun ∷ []) n Read)
    (λ a. elim a as (λ k. get_or (Read ∷ WriteOne ∷ WriteRun ∷ []) (act_place k) Read ≡ k) [ Read ↦ refl | WriteOne ↦ refl | WriteRun ↦ refl ])

pub dec_state : (a b : State) → Dec (a ≡ b)
dec_state = dec_case state_place (λ n. get_or (Ready ∷ NotReady ∷ AtTheKeyboard ∷ []) n Ready)
    (λ a. elim a as (λ k. get_or (Ready ∷ NotReady ∷ AtTheKeyboard ∷ []) (state_place k) Ready ≡ k) [ Ready ↦ refl | NotReady ↦ refl | AtTheKeyboard ↦ refl ])

pub dec_bit : (width : Width) → Dec (width ≡ Bit)
dec_bit Bit = yes refl
dec_bit Word = no (λ e. apart width_place e refl (omega arith))

pub dec_j_bus : (counting : Counting) → Dec (counting ≡ JBus)
dec_j_bus ModBus = no (λ e. apart counting_place e refl (omega arith))
dec_j_bus JBus = yes refl

pub dec_not_in_table : (lookup : Option (Act × Width)) → Dec (lookup ≡ None)
dec_not_in_table (Some (act, width)) = no (λ e. apart lookup_place e refl (omega arith))
dec_not_in_table None = yes refl
