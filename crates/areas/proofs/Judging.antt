-- The verdict on a run, by what its words are.
-- Assumes nothing.
use mathlib.Core.Path.{◌≡◌, refl}
use mathlib.Core.Logic.Iff
use mathlib.Core.List.{List}
use Prim.Native.Nat.{ℕ}
use Rattle.promise.specs.Promise.{Determined}
use Rattle.areas.specs.declared.Access.TheVariants.{ReadWrite}
use Rattle.areas.specs.declared.Area.{Area}
use Rattle.areas.specs.declared.Verdict.{Verdict}
use Rattle.areas.specs.declared.Verdict.TheVariants.{SomeInNoArea, SomeReadOnly, AllReadWrite}
use Rattle.areas.specs.Holding.{Among, area_at, SomeArea, EachArea, OfAreaWith}
use Rattle.areas.specs.Verdicts.{SomeWordInNoArea, SomeWordReadOnly, Judged}
use Rattle.areas.specs.Laws.{Agree}
use Rattle.areas.proofs.Accesses.{read_write}
use Rattle.areas.proofs.Deciding.{dec_addressable, dec_in_no_area, dec_read_only}

pub judged_determined : (areas : List Area) (first count : ℕ) → Determined (Judged areas first count)
judged_determined areas first count SomeInNoArea SomeInNoArea p q = refl
judged_determined areas first count SomeInNoArea SomeReadOnly p q = absurd (q.0 p)
judged_determined areas first count SomeInNoArea AllReadWrite p q = absurd (q.0 p)
judged_determined areas first count SomeReadOnly SomeInNoArea p q = absurd (p.0 q)
judged_determined areas first count SomeReadOnly SomeReadOnly p q = refl
judged_determined areas first count SomeReadOnly AllReadWrite p q = absurd (q.1 p.1)
judged_determined areas first count AllReadWrite SomeInNoArea p q = absurd (p.0 q)
judged_determined areas first count AllReadWrite SomeReadOnly p q = absurd (p.1 q.1)
judged_determined areas first count AllReadWrite AllReadWrite p q = refl

pub judged_exists : (areas : List Area) (first count : ℕ) → (verdict : Verdict) × Judged areas first count verdict
judged_exists areas first count = by (dec_in_no_area areas first count) (dec_read_only areas first count)
  where
    by : Dec (SomeWordInNoArea areas first count) → Dec (SomeWordReadOnly areas first count)
        → (verdict : Verdict) × Judged areas first count verdict
    by (yes hole) told = (SomeInNoArea, hole)
    by (no whole) (yes some) = (SomeReadOnly, (whole, some))
    by (no whole) (no none) = (AllReadWrite, (whole, none))

-- a word that is in some area, and in no read-only one, is of a read-write area
pub each_read_write : (areas : List Area) (first count : ℕ) → Judged areas first count AllReadWrite
    → (word : ℕ) → Among first count word → OfAreaWith ReadWrite areas word
each_read_write areas first count all word among =
    elim (dec_addressable areas word) [
      | yes (i, h, held) ↦ (i, h, (read_write (area_at areas i).access (λ access. all.1 (word, among, (i, h, (access, held)))), held))
      | no not ↦ absurd (all.0 (word, among, not))
    ]

-- ---- two lists that agree on the words of the run

agree_back : (a b : List Area) (first count : ℕ) → Agree a b first count → Agree b a first count
agree_back a b first count agree word among = (Iff.symm (agree word among).0, Iff.symm (agree word among).1)

module _ (a b : List Area) (first count : ℕ) (agree : Agree a b first count) where
  in_no_area_map : SomeWordInNoArea a first count → SomeWordInNoArea b first count
  in_no_area_map (word, among, not) = (word, among, λ shown. not ((agree word among).0.1 shown))

  read_only_map : SomeWordReadOnly a first count → SomeWordReadOnly b first count
  read_only_map (word, among, of) = (word, among, (agree word among).1.0 of)

module _ (a b : List Area) (first count : ℕ) (agree : Agree a b first count) where
  whole : (SomeWordInNoArea a first count → ⊥) → SomeWordInNoArea b first count → ⊥
  whole not hole = not (in_no_area_map b a first count (agree_back a b first count agree) hole)

  pub judged_map : (verdict : Verdict) → Judged a first count verdict → Judged b first count verdict
  judged_map SomeInNoArea p = in_no_area_map a b first count agree p
  judged_map SomeReadOnly p = (whole p.0, read_only_map a b first count agree p.1)
  judged_map AllReadWrite p = (whole p.0, λ some. p.1 (read_only_map b a first count (agree_back a b first count agree) some))

-- ---- a list whose areas are all in the other

pub some_area_map : (a b : List Area) (Such : Area → Type 0) → EachArea a (λ area. SomeArea b (λ other. other ≡ area))
    → SomeArea a Such → SomeArea b Such
some_area_map a b Such in_b (i, h, such) = ((in_b i h).0, (in_b i h).1, rw (in_b i h).2 such)
