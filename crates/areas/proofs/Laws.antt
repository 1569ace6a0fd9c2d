-- The laws of the areas, each under the name that it has in specs/Laws.antt.
-- Assumes nothing.
use mathlib.Core.Path.{◌≡◌, refl, ap}
use mathlib.Core.Logic.{◌↔◌}
use mathlib.Core.List.{◌++◌}
use Prim.Native.Nat.{ℕ, ◌+◌, ◌-◌, ◌≤◌, ◌<◌}
use native.Mathlib.Decide.{dec_le}
use native.Mathlib.Omega.{arith}
use lib.ListN.{length, replicate, length-append, length-replicate}
use lib.Seq.{take-append_seam}
use Rattle.areas.specs.declared.Access.TheVariants.{ReadOnly}
use Rattle.areas.specs.declared.Area.{Area}
use Rattle.std.specs.Prelude.{Some, None}
use Rattle.areas.specs.Holding.{Holds, end_of, empty_area, area_at, SomeArea}
use Rattle.areas.specs.Calls.{list_entries}
use Rattle.areas.specs.Laws as laws
use Rattle.areas.proofs.Accesses.{not_both}
use Rattle.areas.proofs.Across.{hole, no_earlier, no_hole}
use Rattle.areas.proofs.Chain.{in_order_ascend, in_order_apart, rules_in_order}
use Rattle.areas.proofs.Deciding.{dec_addressable, dec_rules_kept}
use Rattle.areas.proofs.Words.{stands}
use Rattle.areas.proofs.Listed.{listed_length}
use Rattle.areas.proofs.Judging.{judged_determined, judged_exists, each_read_write, judged_map, some_area_map}

-- ---- a list that keeps the rules

pub OneAreaHolds : laws.OneAreaHolds
OneAreaHolds words areas kept word i j h k p q =
    elim (dec_le i j) [
      | yes l ↦ elim (dec_le j i) [ yes m ↦ omega arith | no m ↦ absurd (kept.none_overlap i j (omega arith) k (word, p, q)) ]
      | no l ↦ absurd (kept.none_overlap j i (omega arith) h (word, q, p))
    ]

pub OneAccess : laws.OneAccess
OneAccess words areas kept word (i, h, (read, p)) (j, k, (write, q)) =
    let e = OneAreaHolds words areas kept word i j h k p q in
    not_both (area_at areas j).access (rw e at read) write

pub MayTouch : laws.MayTouch
MayTouch words areas = (
  λ kept. (kept.at_most_sixteen, kept.none_empty, rules_in_order kept, kept.end_inside),
  λ (few, some, order, inside). record {
    at_most_sixteen = few;
    none_empty = some;
    ascend = in_order_ascend areas some order;
    none_overlap = in_order_apart areas some order;
    end_inside = inside;
  },
)

pub WordInside : laws.WordInside
WordInside words areas kept word (i, h, held) = omega (arith, held.1, kept.end_inside i h)

pub RunInside : laws.RunInside
RunInside words areas kept first count some each =
    let last = each (first + count - 1) (omega arith, omega arith) in
    omega (arith, WordInside words areas kept (first + count - 1) last)

pub RunAcross : laws.RunAcross
RunAcross words areas kept i j first more g h from upto = (
  λ each k p q. elim (dec_le (area_at areas (k + 1)).first (end_of (area_at areas k))) [
    | yes m ↦ omega (arith, rules_in_order kept k (k + 1) (omega arith) (omega arith))
    | no m ↦ absurd (hole areas (rules_in_order kept) k (omega arith) (omega arith) (each (end_of (area_at areas k)) (within k p q m)))
  ],
  λ touch word among. no_hole areas i j word forward h touch (omega (arith, from.0, among.0)) (omega (arith, upto.1, among.1)),
)
  where
    forward : i ≤ j
    forward = elim (dec_le i j) [ yes l ↦ l | no l ↦ absurd (omega (arith, from.0, upto.1, rules_in_order kept j i (omega arith) g)) ]

    within : (k : ℕ) → i ≤ k → k < j → ((area_at areas (k + 1)).first ≤ end_of (area_at areas k) → ⊥)
        → (first ≤ end_of (area_at areas k)) × (end_of (area_at areas k) < first + (more + 1))
    within k p q m = (
      omega (arith, from.1, (no_earlier areas (rules_in_order kept) i k p (omega arith)).1),
      omega (arith, upto.0, (no_earlier areas (rules_in_order kept) (k + 1) j (omega arith) h).0),
    )

pub ReadWriteMeans : laws.ReadWriteMeans
ReadWriteMeans words areas kept first count = (
  each_read_write areas first count,
  λ each. (
    λ none. let of = each none.0 none.1 in none.2 (of.0, of.1, of.2.1),
    λ some. OneAccess words areas kept some.0 some.2 (each some.0 some.1),
  ),
)

-- ---- the verdict, whatever the list

pub AllAddressable : laws.AllAddressable
AllAddressable areas first count = (
  λ whole word among. elim (dec_addressable areas word) [ yes shown ↦ shown | no not ↦ absurd (whole (word, among, not)) ],
  λ each none. none.2 (each none.0 none.1),
)

pub VerdictExists : laws.VerdictExists
VerdictExists = judged_exists

pub JudgedDetermined : laws.JudgedDetermined
JudgedDetermined = judged_determined

pub DecidedByTheWords : laws.DecidedByTheWords
DecidedByTheWords a b first count agree x y p q = judged_determined b first count x y (judged_map a b first count agree x p) q

pub OrderIgnored : laws.OrderIgnored
OrderIgnored a b first count in_b in-a =
    DecidedByTheWords a b first count
    (λ word among. (both (λ area. Holds area word), both (λ area. (area.access ≡ ReadOnly) × Holds area word)))
  where
    both : (Such : Area → Type 0) → SomeArea a Such ↔ SomeArea b Such
    both Such = (some_area_map a b Such in_b, some_area_map b a Such in-a)

-- ---- a survey

pub OverSixteen : laws.OverSixteen
OverSixteen areas words run None over broken = refl
OverSixteen areas words run (Some verdict) over (kept, judged) = absurd (omega (arith, kept.at_most_sixteen))

pub FindingExists : laws.FindingExists
FindingExists areas words run =
    elim (dec_rules_kept words areas) [
      | yes kept ↦ let (verdict, judged) = VerdictExists areas run.first run.count in (Some verdict, (kept, judged))
      | no broken ↦ (None, broken)
    ]

pub SurveyDetermined : laws.SurveyDetermined
SurveyDetermined areas words run None None p q = refl
SurveyDetermined areas words run None (Some verdict) p q = absurd (p q.0)
SurveyDetermined areas words run (Some verdict) None p q = absurd (q p.0)
SurveyDetermined areas words run (Some x) (Some y) p q = ap Some (judged_determined areas run.first run.count x y p.1 q.1)

-- ---- a list by value

pub ListedTooLong : laws.ListedTooLong
ListedTooLong list entries over = omega (arith, listed_length list entries)

pub ListedBySome : laws.ListedBySome
ListedBySome areas few =
    let room = list_entries - length areas in (
      record { entries = areas ++ replicate room empty_area; len = length areas },
      omega (arith, length-append areas (replicate room empty_area), length-replicate room empty_area),
      take-append_seam areas (replicate room empty_area),
    )

-- ---- a list as words

pub WordsStandFor : laws.WordsStandFor
WordsStandFor = stands

pub SurveyWordsDetermined : laws.SurveyWordsDetermined
SurveyWordsDetermined area_words words run x y p q =
    let (areas, stand) = stands area_words words in
    SurveyDetermined areas words run x y (p areas stand) (q areas stand)
