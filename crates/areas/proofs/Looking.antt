-- A search: what it knows after a look at one more area, and the verdict at its end.
-- Assumes nothing.
use mathlib.Core.Path.{◌≡◌}
use mathlib.Core.Logic.{◌⊎◌, inl, inr}
use mathlib.Core.Bool.{Bool, true, false}
use mathlib.Core.List.{List}
use Rattle.std.specs.Prelude.{Some, None}
use Prim.Native.Nat.{ℕ, ◌≤◌, ◌<◌, min, max}
use native.Mathlib.Decide.{dec_le}
use native.Mathlib.Numerals.{add-one}
use native.Mathlib.Omega.{arith}
use lib.ListN.{length}
use Rattle.promise.specs.Promise.{Decides}
use Rattle.promise.proofs.Promise.{decides_map}
use Rattle.areas.specs.declared.Access.TheVariants.{ReadOnly}
use Rattle.areas.specs.declared.Area.{Area}
use Rattle.areas.specs.declared.Run.{Run}
use Rattle.areas.specs.declared.search.Search.{Search}
use Rattle.areas.specs.Holding.{Holds, end_of, area_at}
use Rattle.areas.specs.Verdicts.{SomeWordInNoArea, SomeWordReadOnly}
use Rattle.areas.specs.Following.{Follows, end_before}
use Rattle.areas.specs.Search.{Past, Meets, Sought, Looked}
use Rattle.areas.proofs.Chain.{chain_behind, chain_next, kept_chain}

-- an area and a run that overlap share the later of their first words
pub meets : (area : Area) (first end : ℕ) → max first area.first < min end (end_of area) → Meets area first end
meets area first end overlap = (max first area.first, omega arith, omega arith, (omega arith, omega arith))

-- .. and where each begins before the other ends, they do so if the run has a word
pub meets_some : (area : Area) (first end : ℕ) → area.first < end → first < end_of area → 1 ≤ area.count
    → (t : Bool) → Decides (first < end) t → Decides (Meets area first end) t
meets_some area first end h k l t =
    decides_map (first < end) (Meets area first end) t (λ some. meets area first end (omega arith)) (λ met. omega (arith, met.1, met.2))

-- the search after a look at an area that keeps the rules
abbrev pub after : Search → ℕ → ℕ → Bool → Search
after s from reached told = record {
  words = s.words;
  first = s.first;
  end = s.end;
  from = from;
  reached = reached;
  read_only = told;
}

module _ (s : Search) (area : Area) where
  -- an area that doesn't follow the one before it breaks a rule
  pub breaks : (Follows s.words s.from area → ⊥) → Looked s area None
  breaks off areas words run seen inside same so rules =
      let follows : Follows words (end_before areas seen) area = rw (← same) (kept_chain words areas rules seen inside) in
      off (rw (so.image, so.behind) follows)

  module _ (follows : Follows s.words s.from area) (from : ℕ) (behind : from ≡ end_of area) where
    -- The word reached goes over words that the area holds, to one that it doesn't hold. A read-only word is known of from before, or
    -- from this area.
    one_more : (reached : ℕ) → s.reached ≤ reached
        → ((w : ℕ) → s.reached ≤ w → w < reached → Holds area w) → (reached < s.end → Holds area reached → ⊥)
        → (told : Bool) → (told ≡ true → (s.read_only ≡ true) ⊎ ((area.access ≡ ReadOnly) × Meets area s.first s.end))
        → (told ≡ false → (s.read_only ≡ false) × (area.access ≡ ReadOnly → Meets area s.first s.end → ⊥))
        → Looked s area (Some (after s from reached told))
    one_more reached onward held left told yes-by no-by areas words run seen inside same so = record {
      image = so.image;
      starts = so.starts;
      ends = so.ends;
      chain = chain_next words areas seen so.chain (rw (same, ← so.image, ← so.behind) follows);
      behind = rw (add-one, same) behind;
      not_before = omega (arith, so.not_before);
      covered = λ w l h. elim (dec_le s.reached w) [
        | yes m ↦ (seen, inside, rw same (held w m h))
        | no m ↦ so.covered w l (omega arith)
      ];
      passed = λ short i h holds. elim (dec_le seen i) [
        | yes m ↦ let e : i ≡ seen = omega arith in left short (rw (e, same) at holds)
        | no m ↦ earlier i (omega arith) short holds
      ];
      found = λ e. elim (yes-by e) [
        | inl earlier ↦ so.found earlier
        | inr (access, (word, after_first, upto, holds)) ↦ (
          word,
          (rw so.starts at after_first, rw so.ends at upto),
          (seen, inside, (rw same access, rw same holds)),
        )
      ];
      not_found = λ e i h access meets. elim (dec_le seen i) [
        | yes m ↦ let k : i ≡ seen = omega arith in (no-by e).1 (rw (k, same) at access) (rw (k, same) at meets)
        | no m ↦ so.not_found (no-by e).0 i (omega arith) access meets
      ];
    }
      where
        -- an earlier area doesn't hold the word reached: it didn't before, or the word lies behind this area's first
        earlier : (i : ℕ) → i < seen → reached < s.end → Holds (area_at areas i) reached → ⊥
        earlier i h short holds = elim (dec_le reached s.reached) [
          | yes m ↦ let e : reached ≡ s.reached = omega arith in so.passed (omega arith) i h (rw e at holds)
          | no m ↦ omega (
            arith,
            chain_behind words areas seen so.chain i h,
            so.behind,
            follows.behind,
            (held s.reached (omega arith) (omega arith)).0,
            holds.1,
          )
        ]

    -- an area beside the run
    pub beside : (Meets area s.first s.end → ⊥) → Looked s area (Some (after s from s.reached s.read_only))
    beside apart areas words run seen inside same so =
        one_more s.reached (omega arith) (λ w l h. absurd (omega arith))
        (λ short holds. apart (s.reached, omega (arith, so.starts, so.not_before), short, holds))
        s.read_only (λ e. inl e) (λ e. (e, λ access meets. apart meets)) areas words run seen inside same so

    -- an area that holds a word of the run
    pub met : Meets area s.first s.end → (reached : ℕ) → Past area s.reached reached
        → (told : Bool) → (told ≡ true → (s.read_only ≡ true) ⊎ (area.access ≡ ReadOnly))
        → (told ≡ false → (s.read_only ≡ false) × (area.access ≡ ReadOnly → ⊥))
        → Looked s area (Some (after s from reached told))
    met shared reached past told yes-by no-by =
        one_more reached past.onward past.held (λ short. past.not_held) told
        (λ e. elim (yes-by e) [ inl earlier ↦ inl earlier | inr access ↦ inr (access, shared) ])
        (λ e. ((no-by e).0, λ access meets. (no-by e).1 access))

-- ---- at the end

module _ (areas : List Area) (words : ℕ) (run : Run) (s : Search) (so : Sought areas words run (length areas) s) where
  pub word_in_no_area : s.reached < s.end → SomeWordInNoArea areas run.first run.count
  word_in_no_area short = (
    s.reached,
    (so.not_before, omega (arith, so.ends)),
    λ shown. so.passed short shown.0 shown.1 shown.2,
  )

  pub no_word_in_no_area : s.end ≤ s.reached → SomeWordInNoArea areas run.first run.count → ⊥
  no_word_in_no_area ended (w, among, not) = not (so.covered w among.0 (omega (arith, among.1, so.ends)))

  pub no_word_read_only : s.read_only ≡ false → SomeWordReadOnly areas run.first run.count → ⊥
  no_word_read_only e (w, among, of) =
      so.not_found e of.0 of.1 of.2.0
      (w, omega (arith, among.0, so.starts), omega (arith, among.1, so.ends), of.2.1)
