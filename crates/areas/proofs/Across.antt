-- A run across areas, in a list that keeps the rules: where areas touch no word is left out, and where they don't there is a hole.
-- Assumes nothing.
use mathlib.Core.Path.{◌≡◌}
use mathlib.Core.List.{List}
use Prim.Native.Nat.{ℕ, zero, suc, ◌+◌, ◌≤◌, ◌<◌}
use native.Mathlib.Decide.{dec_le}
use native.Mathlib.Numerals.{add-one}
use native.Mathlib.Omega.{arith}
use lib.ListN.{length}
use Rattle.areas.specs.declared.Area.{Area}
use Rattle.areas.specs.Holding.{end_of, area_at, Addressable, InNoArea}
use Rattle.areas.specs.Rules.{Touch}
use Rattle.areas.proofs.Chain.{InOrder}

module _ (areas : List Area) (order : InOrder areas) where
  -- an area that is the same or a later one starts no earlier, and ends no earlier
  pub no_earlier : (i j : ℕ) → i ≤ j → j < length areas
      → ((area_at areas i).first ≤ (area_at areas j).first) × (end_of (area_at areas i) ≤ end_of (area_at areas j))
  no_earlier i j l h =
      elim (dec_le j i) [
        | yes m ↦ let e : i ≡ j = omega arith in rw e (omega arith, omega arith)
        | no m ↦ let apart = order i j (omega arith) h in (omega arith, omega arith)
      ]

  -- the word behind an area is in none, if the next area does not touch it
  pub hole : (k : ℕ) → k + 1 < length areas → end_of (area_at areas k) < (area_at areas (k + 1)).first → InNoArea areas (end_of (area_at areas k))
  hole k h gap (j, l, held) =
      elim (dec_le j k) [
        | yes m ↦ omega (arith, held.1, (no_earlier j k m (omega arith)).1)
        | no m ↦ omega (arith, held.0, (no_earlier (k + 1) j (omega arith) l).0)
      ]

-- areas from i to j that touch leave no word out
pub no_hole : (areas : List Area) (i j word : ℕ) → i ≤ j → j < length areas
    → ((k : ℕ) → i ≤ k → k < j → Touch (area_at areas k) (area_at areas (k + 1)))
    → (area_at areas i).first ≤ word → word < end_of (area_at areas j) → Addressable areas word
no_hole areas i zero word l h touch from upto = let e : i ≡ zero = omega arith in (zero, h, (rw e at from, upto))
no_hole areas i (suc j) word l h touch from upto =
    elim (dec_le (area_at areas (suc j)).first word) [
      | yes m ↦ (suc j, h, (m, upto))
      | no m ↦ elim (dec_le i j) [
        | yes n ↦ let t : Touch (area_at areas j) (area_at areas (suc j)) = rw add-one at (touch j n (omega arith)) in
            no_hole areas i j word n (omega arith) (λ k p q. touch k p (omega arith)) from (omega (arith, t))
        | no n ↦ let e : i ≡ suc j = omega arith in absurd (m (rw e at from))
      ]
    ]
