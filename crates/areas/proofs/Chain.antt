-- The rules, looked at from one area to the next: each area follows the one before it.
-- Assumes nothing.
use mathlib.Core.Path.{◌≡◌}
use mathlib.Core.List.{List, [], ◌∷◌}
use Prim.Native.Nat.{ℕ, zero, suc, ◌+◌, ◌≤◌, ◌<◌}
use native.Mathlib.Decide.{dec_le}
use native.Mathlib.Omega.{arith}
use lib.ListN.{length}
use Rattle.areas.specs.declared.Area.{Area}
use Rattle.areas.specs.Holding.{end_of, area_at, EachTwo}
use Rattle.areas.specs.Rules.{AtMostSixteen, NoneEmpty, Ascend, NoneOverlap, RulesKept}
use Rattle.areas.specs.Following.{Follows, end_before, Chain}

-- ---- each area ends where a later one starts, or before

abbrev pub InOrder : List Area → Type 0
InOrder areas = EachTwo areas (λ a b. end_of a ≤ b.first)

module _ (areas : List Area) (some : NoneEmpty areas) where
  pub in_order_ascend : InOrder areas → Ascend areas
  in_order_ascend order i j l h = omega (arith, order i j l h, some i (omega arith))

  pub in_order_apart : InOrder areas → NoneOverlap areas
  in_order_apart order i j l h both = omega (arith, order i j l h, both.1, both.2)

  -- an area that starts inside an earlier one has its first word in both
  kept_in_order : Ascend areas → NoneOverlap areas → InOrder areas
  kept_in_order ascend apart i j l h =
      elim (dec_le (end_of (area_at areas i)) (area_at areas j).first) [
        | yes m ↦ m
        | no m ↦ let later = ascend i j l h in
            absurd (apart i j l h ((area_at areas j).first, (omega arith, omega arith), (omega arith, omega (arith, some j h))))
      ]

pub rules_in_order : {words : ℕ} {areas : List Area} → RulesKept words areas → InOrder areas
rules_in_order {words} {areas} kept = kept_in_order areas kept.none_empty kept.ascend kept.none_overlap

-- ---- the first n areas, each of which follows the one before it

module _ (words : ℕ) (areas : List Area) where
  pub chain_next : (n : ℕ) → Chain words areas n → Follows words (end_before areas n) (area_at areas n) → Chain words areas (n + 1)
  chain_next n chain next i h =
      elim (dec_le n i) [ yes m ↦ let e : i ≡ n = omega arith in rw e next | no m ↦ chain i (omega arith) ]

  -- the first n areas end where the next one may start, or before
  pub chain_behind : (n : ℕ) → Chain words areas n → (i : ℕ) → i < n → end_of (area_at areas i) ≤ end_before areas n
  chain_behind zero chain i h = absurd (omega arith)
  chain_behind (suc n) chain i h =
      elim (dec_le n i) [
        | yes m ↦ let e : i ≡ n = omega arith in rw e (omega arith)
        | no m ↦ omega (arith, chain_behind n (λ k l. chain k (omega arith)) i (omega arith), (chain n (omega arith)).behind)
      ]

  module _ (chain : Chain words areas (length areas)) where
    chain_in_order : InOrder areas
    chain_in_order i j l h = omega (arith, chain_behind j (λ k m. chain k (omega arith)) i l, (chain j h).behind)

    pub chain_some : NoneEmpty areas
    chain_some i h = (chain i h).some_word

    pub chain_ascend : Ascend areas
    chain_ascend = in_order_ascend areas chain_some chain_in_order

    pub chain_apart : NoneOverlap areas
    chain_apart = in_order_apart areas chain_some chain_in_order

    pub chain_kept : AtMostSixteen areas → RulesKept words areas
    chain_kept few = record {
      at_most_sixteen = few;
      none_empty = chain_some;
      ascend = chain_ascend;
      none_overlap = chain_apart;
      end_inside = λ i h. (chain i h).inside;
    }

  kept_behind : RulesKept words areas → (i : ℕ) → i < length areas → end_before areas i ≤ (area_at areas i).first
  kept_behind kept zero h = omega arith
  kept_behind kept (suc i) h = rules_in_order kept i (suc i) (omega arith) h

  pub kept_chain : RulesKept words areas → Chain words areas (length areas)
  kept_chain kept i h = record { some_word = kept.none_empty i h; behind = kept_behind kept i h; inside = kept.end_inside i h }

-- ---- two areas, the second behind the first

pub two_kept : (words : ℕ) (a b : Area) → Follows words 0 a → Follows words (end_of a) b → RulesKept words (a ∷ b ∷ [])
two_kept words a b p q = chain_kept words (a ∷ b ∷ []) chain (omega arith)
  where
    chain : Chain words (a ∷ b ∷ []) 2
    chain zero h = p
    chain (suc zero) h = q
    chain (suc (suc i)) h = absurd (omega arith)
