-- Whether an area of a list, or a word of a run, is such, can be decided, and whether a list keeps the rules.
-- Assumes nothing.
use mathlib.Core.Path.{◌≡◌}
use mathlib.Core.Logic.Dec
use mathlib.Core.List.{List}
use Prim.Native.Nat.{ℕ, zero, suc, ◌+◌, ◌-◌, ◌≤◌, ◌<◌}
use native.Mathlib.Decide.{dec_le, dec_lt, map_dec}
use native.Mathlib.Omega.{arith}
use lib.ListN.{length}
use Rattle.areas.specs.declared.Access.{Access}
use Rattle.areas.specs.declared.Access.TheVariants.{ReadOnly}
use Rattle.areas.specs.declared.Area.{Area}
use Rattle.areas.specs.Holding.{Holds, end_of, area_at, Addressable, InNoArea, OfAreaWith}
use Rattle.areas.specs.Rules.{most_areas, RulesKept}
use Rattle.areas.specs.Verdicts.{SomeWord, SomeWordInNoArea, SomeWordReadOnly}
use Rattle.areas.specs.Following.{Follows, end_before}
use Rattle.areas.proofs.Accesses.{dec_access}
use Rattle.areas.proofs.Chain.{chain_kept, kept_chain}

-- of the numbers below n, one is such, or none
pub some_below : (n : ℕ) (Such : ℕ → Type 0) → ((i : ℕ) → Dec (Such i)) → Dec ((i : ℕ) × (i < n) × Such i)
some_below zero Such told = no (λ some. omega (arith, some.1))
some_below (suc n) Such told = one_more (some_below n Such told) (told n)
  where
    one_more : Dec ((i : ℕ) × (i < n) × Such i) → Dec (Such n) → Dec ((i : ℕ) × (i < suc n) × Such i)
    one_more (yes (i, h, such)) last = yes (i, omega arith, such)
    one_more (no none) (yes such) = yes (n, omega arith, such)
    one_more (no none) (no not) = no (λ some. elim (dec_le n some.0) [
      | yes m ↦ let e : some.0 ≡ n = omega (arith, some.1) in not (rw e at some.2)
      | no m ↦ none (some.0, omega arith, some.2)
    ])

-- ---- some area

dec_holds : (area : Area) (word : ℕ) → Dec (Holds area word)
dec_holds area word = Dec.and (dec_le area.first word) (dec_lt word (area.first + area.count))

pub dec_addressable : (areas : List Area) (word : ℕ) → Dec (Addressable areas word)
dec_addressable areas word = some_below (length areas) (λ i. Holds (area_at areas i) word) (λ i. dec_holds (area_at areas i) word)

pub dec_of_area_with : (access : Access) (areas : List Area) (word : ℕ) → Dec (OfAreaWith access areas word)
dec_of_area_with access areas word =
    some_below (length areas) (λ i. ((area_at areas i).access ≡ access) × Holds (area_at areas i) word)
    (λ i. Dec.and (dec_access (area_at areas i).access access) (dec_holds (area_at areas i) word))

-- ---- some word of a run

pub dec_some_word : (first count : ℕ) (Such : ℕ → Type 0) → ((word : ℕ) → Dec (Such word)) → Dec (SomeWord first count Such)
dec_some_word first count Such told =
    map_dec
    (λ some. (first + some.0, (omega arith, omega (arith, some.1)), some.2))
    (λ some. (some.0 - first, omega (arith, some.1.0, some.1.1), rw (back some.0 some.1.0) some.2))
    (some_below count (λ n. Such (first + n)) (λ n. told (first + n)))
  where
    back : (word : ℕ) → first ≤ word → first + (word - first) ≡ word
    back word h = omega arith

pub dec_in_no_area : (areas : List Area) (first count : ℕ) → Dec (SomeWordInNoArea areas first count)
dec_in_no_area areas first count = dec_some_word first count (InNoArea areas) (λ word. Dec.not (dec_addressable areas word))

pub dec_read_only : (areas : List Area) (first count : ℕ) → Dec (SomeWordReadOnly areas first count)
dec_read_only areas first count = dec_some_word first count (OfAreaWith ReadOnly areas) (dec_of_area_with ReadOnly areas)

-- ---- the rules

-- each number below n is such, or one is not
each_below : (n : ℕ) (Such : ℕ → Type 0) → ((i : ℕ) → Dec (Such i)) → Dec ((i : ℕ) → i < n → Such i)
each_below n Such told =
    elim (some_below n (λ i. Such i → ⊥) (λ i. Dec.not (told i))) [
      | yes some ↦ no (λ each. some.2 (each some.0 some.1))
      | no none ↦ yes (λ i h. elim (told i) [ yes such ↦ such | no not ↦ absurd (none (i, h, not)) ])
    ]

dec_follows : (words from : ℕ) (area : Area) → Dec (Follows words from area)
dec_follows words from area =
    map_dec (λ all. record { some_word = all.0; behind = all.1.0; inside = all.1.1 })
    (λ follows. (follows.some_word, (follows.behind, follows.inside)))
    (Dec.and (dec_le 1 area.count) (Dec.and (dec_le from area.first) (dec_le (end_of area) words)))

pub dec_rules_kept : (words : ℕ) (areas : List Area) → Dec (RulesKept words areas)
dec_rules_kept words areas =
    map_dec (λ both. chain_kept words areas both.1 both.0) (λ kept. (kept.at_most_sixteen, kept_chain words areas kept))
    (Dec.and (dec_le (length areas) most_areas)
    (each_below (length areas) _ (λ i. dec_follows words (end_before areas i) (area_at areas i))))
