-- Lists worked out by hand: both sides of each rule, and each verdict.
-- Assumes nothing.
use mathlib.Core.Path.{◌≡◌, refl, ap, ◌∙◌}
use mathlib.Core.List.{List, [], ◌∷◌}
use Prim.Native.Nat.{ℕ, zero, suc, ◌+◌, ◌<◌}
use native.Mathlib.Decide.{dec_le}
use native.Mathlib.Omega.{arith}
use Rattle.areas.specs.declared.Access.{Access}
use Rattle.areas.specs.declared.Access.TheVariants.{ReadOnly, ReadWrite}
use Rattle.areas.specs.declared.Area.{Area}
use Rattle.areas.specs.declared.Verdict.TheVariants.{SomeInNoArea, SomeReadOnly, AllReadWrite}
use Rattle.areas.specs.Holding.{Holds, area_at, Addressable}
use Rattle.areas.specs.Rules.{NoneEmpty, Ascend, NoneOverlap, EndInside, RulesKept}
use Rattle.areas.specs.Verdicts.{Judged}
use Rattle.areas.proofs.Accesses.{not_both}
use Rattle.areas.specs.Following.{Chain}
use Rattle.areas.proofs.Chain.{chain_some, chain_ascend, chain_apart, chain_kept, two_kept}
use Rattle.areas.proofs.Laws as laws

abbrev area : ℕ → ℕ → Access → Area
area first count access = record { first = first; count = count; access = access }

-- ---- no areas, and no words

pub no_areas_kept : (words : ℕ) → RulesKept words []
no_areas_kept words = chain_kept words [] (λ i h. absurd (omega arith)) (omega arith)

pub no_areas_word_0 : Judged [] 0 1 SomeInNoArea
no_areas_word_0 = (0, (omega arith, omega arith), λ shown. omega (arith, shown.1))

pub no_words : (areas : List Area) (first : ℕ) → Judged areas first 0 AllReadWrite
no_words areas first = (λ none. omega (arith, none.1.0, none.1.1), λ some. omega (arith, some.1.0, some.1.1))

-- ---- the bench station: words 0 to 7 read-write, 8 to 15 read-only; the two areas touch

abbrev bench : List Area
bench = area 0 8 ReadWrite ∷ area 8 8 ReadOnly ∷ []

pub bench_kept : RulesKept 16 bench
bench_kept =
    two_kept 16 (area 0 8 ReadWrite) (area 8 8 ReadOnly) (record { some_word = omega arith; behind = omega arith; inside = omega arith })
    (record { some_word = omega arith; behind = omega arith; inside = omega arith })

-- with a word less, the second area ends past the image
pub bench_past_the_image : RulesKept 15 bench → ⊥
bench_past_the_image kept = omega (arith, kept.end_inside 1 (omega arith))

bench_shows : (word : ℕ) → word < 16 → Addressable bench word
bench_shows word h = elim (dec_le 8 word) [ yes l ↦ (1, omega arith, (l, h)) | no l ↦ (0, omega arith, (omega arith, omega arith)) ]

-- words 7 and 8 may be read together, but not written
pub bench_7_and_8 : Judged bench 7 2 SomeReadOnly
bench_7_and_8 = (
  λ none. none.2 (bench_shows none.0 (omega (arith, none.1.1))),
  (8, (omega arith, omega arith), (1, omega arith, (refl, (omega arith, omega arith)))),
)

-- words 0 to 7 may be written
pub bench_0_to_7 : Judged bench 0 8 AllReadWrite
bench_0_to_7 = (
  λ none. none.2 (bench_shows none.0 (omega (arith, none.1.1))),
  λ some. laws.OneAccess 16 bench bench_kept some.0 some.2 (0, omega arith, (refl, (omega arith, omega (arith, some.1.1)))),
)

-- word 16 is in no area, and that comes before word 15 being read-only
pub bench_15_and_16 : Judged bench 15 2 SomeInNoArea
bench_15_and_16 = (16, (omega arith, omega arith), λ shown. omega (arith, laws.WordInside 16 bench bench_kept 16 shown))

-- ---- a list with a hole: words 4 and 5

abbrev holed : List Area
holed = area 0 4 ReadWrite ∷ area 6 2 ReadWrite ∷ []

pub holed_kept : RulesKept 8 holed
holed_kept =
    two_kept 8 (area 0 4 ReadWrite) (area 6 2 ReadWrite) (record { some_word = omega arith; behind = omega arith; inside = omega arith })
    (record { some_word = omega arith; behind = omega arith; inside = omega arith })

word_4_in_none : (i : ℕ) → i < 2 → Holds (area_at holed i) 4 → ⊥
word_4_in_none zero h held = omega (arith, held.1)
word_4_in_none (suc zero) h held = omega (arith, held.0)
word_4_in_none (suc (suc i)) h held = absurd (omega arith)

-- words 3 and 6 are addressable, and of words 3 to 6 some are in no area
pub holed_3_to_6 : Addressable holed 3 × Addressable holed 6 × Judged holed 3 4 SomeInNoArea
holed_3_to_6 = (
  (0, omega arith, (omega arith, omega arith)),
  (1, omega arith, (omega arith, omega arith)),
  (4, (omega arith, omega arith), λ shown. word_4_in_none shown.0 shown.1 shown.2),
)

-- ---- areas that overlap break the rules, and so does an empty one

pub overlapping_not_kept : RulesKept 16 (area 0 5 ReadWrite ∷ area 4 4 ReadWrite ∷ []) → ⊥
overlapping_not_kept kept = kept.none_overlap 0 1 (omega arith) (omega arith) (4, (omega arith, omega arith), (omega arith, omega arith))

pub empty_not_kept : RulesKept 16 (area 3 0 ReadWrite ∷ []) → ⊥
empty_not_kept kept = omega (arith, kept.none_empty 0 (omega arith))

-- ---- a list out of order breaks the rules, and has its verdict all the same

abbrev reversed : List Area
reversed = area 8 8 ReadWrite ∷ area 0 8 ReadWrite ∷ []

pub reversed_not_kept : (words : ℕ) → RulesKept words reversed → ⊥
reversed_not_kept words kept = omega (arith, kept.ascend 0 1 (omega arith) (omega arith))

reversed_read_write : (i : ℕ) → i < 2 → (area_at reversed i).access ≡ ReadWrite
reversed_read_write zero h = refl
reversed_read_write (suc zero) h = refl
reversed_read_write (suc (suc i)) h = absurd (omega arith)

pub reversed_0_to_15 : Judged reversed 0 16 AllReadWrite
reversed_0_to_15 = (
  λ none. elim (dec_le 8 none.0) [
    | yes l ↦ none.2 (0, omega arith, (l, omega (arith, none.1.1)))
    | no l ↦ none.2 (1, omega arith, (omega arith, omega arith))
  ],
  λ some. not_both _ some.2.2.0 (reversed_read_write some.2.0 some.2.1),
)

-- ---- nothing wraps at 65,536: not where an area ends ..

pub end_not_wrapped : RulesKept 4095 (area 65535 2 ReadWrite ∷ []) → ⊥
end_not_wrapped kept = omega (arith, kept.end_inside 0 (omega arith))

-- .. nor where a run goes on

abbrev both_ends : List Area
both_ends = area 0 1 ReadWrite ∷ area 65535 1 ReadWrite ∷ []

word_65536_in_none : (i : ℕ) → i < 2 → Holds (area_at both_ends i) 65536 → ⊥
word_65536_in_none zero h held = omega (arith, held.1)
word_65536_in_none (suc zero) h held = omega (arith, held.1)
word_65536_in_none (suc (suc i)) h held = absurd (omega arith)

pub run_not_wrapped : Judged both_ends 65535 2 SomeInNoArea
run_not_wrapped = (65536, (omega arith, omega arith), λ shown. word_65536_in_none shown.0 shown.1 shown.2)

-- ---- areas of one word each: sixteen of them keep the rules, of seventeen their number alone breaks them

abbrev singles : ℕ → ℕ → List Area
singles zero from = []
singles (suc n) from = area from 1 ReadWrite ∷ singles n (suc from)

singles_at : (n from i : ℕ) → i < n → area_at (singles n from) i ≡ area (from + i) 1 ReadWrite
singles_at zero from i h = absurd (omega arith)
singles_at (suc n) from zero h = ap (λ (k : ℕ). area k 1 ReadWrite) (omega arith)
singles_at (suc n) from (suc i) h =
    let e : suc from + i ≡ from + suc i = omega arith in
    singles_at n (suc from) i (omega arith) ∙ ap (λ (k : ℕ). area k 1 ReadWrite) e

singles_chain : (n : ℕ) → Chain n (singles n 0) n
singles_chain n zero h = rw (singles_at n 0 zero h) (record { some_word = omega arith; behind = omega arith; inside = omega arith })
singles_chain n (suc i) h =
    rw (singles_at n 0 (suc i) h, singles_at n 0 i (omega arith)) (record { some_word = omega arith; behind = omega arith; inside = omega arith })

pub sixteen_kept : RulesKept 16 (singles 16 0)
sixteen_kept = chain_kept 16 (singles 16 0) (singles_chain 16) (omega arith)

pub seventeen_too_many : NoneEmpty (singles 17 0) × Ascend (singles 17 0) × NoneOverlap (singles 17 0) × EndInside 17 (singles 17 0)
    × (RulesKept 17 (singles 17 0) → ⊥)
seventeen_too_many =
    let chain = singles_chain 17 in (
      chain_some 17 (singles 17 0) chain,
      chain_ascend 17 (singles 17 0) chain,
      chain_apart 17 (singles 17 0) chain,
      λ i h. (chain i h).inside,
      λ kept. omega (arith, kept.at_most_sixteen),
    )
