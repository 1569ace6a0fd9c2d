-- The words of a list of areas: three for each, one list for its words, and always one that words stand for.
-- Assumes nothing.
use mathlib.Core.Path.{◌≡◌, refl, sym, ap, ◌∙◌}
use mathlib.Core.Logic.{◌⊎◌, ◌≢◌, inl, inr}
use mathlib.Core.List.{List, [], ◌∷◌, ◌++◌}
use Prim.Native.Nat.{ℕ, zero, suc, ◌+◌, ◌*◌, ◌%◌, ◌≤◌, ◌<◌}
use native.Mathlib.Decide.{dec_le}
use native.Mathlib.Omega.{arith}
use lib.ListN.{length, drop, get_or, get_or-append, replicate, length-append, length-drop, length-replicate}
use lib.Seq.{drop-append_seam}
use Rattle.std.specs.Prelude.{Result, Ok, Err, Some, None}
use Rattle.std.specs.Result.{result_ok}
use Rattle.std.proofs.lemmas.Option.{none-some, same_Some}
use Rattle.std.proofs.lemmas.List.{get_or-drop, drop-drop}
use Rattle.promise.specs.Promise.{Determined}
use Rattle.areas.specs.declared.Access.{Access}
use Rattle.areas.specs.declared.Access.TheVariants.{ReadOnly, ReadWrite}
use Rattle.areas.specs.declared.Area.{Area}
use Rattle.areas.specs.declared.UnknownAccess.{UnknownAccess}
use Rattle.areas.specs.Holding.{empty_area, area_at}
use Rattle.areas.specs.Rules.{RulesKept}
use Rattle.areas.specs.Words.{access_word, MeansNothing, AccessNamed, area_words, OfNoList, StandFor}

pub words_length : (areas : List Area) → length (area_words areas) ≡ length areas * 3
unfolding area_words
words_length [] = refl
words_length (area ∷ areas) = omega (arith, words_length areas)

-- the words of one area
abbrev three_words : Area → List ℕ
three_words area = area.first ∷ area.count ∷ access_word area.access ∷ []

-- word k of area i stands at 3 i + k
word_at : (areas : List Area) (i k : ℕ) → i < length areas → k < 3
    → get_or (area_words areas) (i * 3 + k) 0 ≡ get_or (three_words (area_at areas i)) k 0
unfolding area_words
word_at [] i k h few = absurd (omega (arith, h))
word_at (area ∷ areas) zero zero h few = refl
word_at (area ∷ areas) zero (suc zero) h few = refl
word_at (area ∷ areas) zero (suc (suc zero)) h few = refl
word_at (area ∷ areas) zero (suc (suc (suc k))) h few = absurd (omega (arith, few))
word_at (area ∷ areas) (suc i) k h few =
    let further : suc i * 3 + k ≡ suc (suc (suc (i * 3 + k))) = omega arith in
    ap (λ (n : ℕ). get_or (area.first ∷ area.count ∷ access_word area.access ∷ area_words areas) n 0) further
    ∙ word_at areas i k (omega (arith, h)) few

-- ---- words of no list: their number is no multiple of three, or an access word means nothing

pub of_three : (words : List ℕ) → length words % 3 ≢ 0 → OfNoList words
of_three words odd areas e =
    odd (ap (λ (l : List ℕ). length l % 3) (sym e) ∙ rw (words_length areas) (whole (length areas)))
  where
    whole : (n : ℕ) → n * 3 % 3 ≡ 0
    whole n = omega arith

pub of_access : (words : List ℕ) (i : ℕ) → i * 3 + 2 < length words → MeansNothing access_word (get_or words (i * 3 + 2) 0)
    → OfNoList words
of_access words i h none areas e =
    let long : i * 3 + 2 < length areas * 3 = omega (arith, h, ap length e, words_length areas) in
    none (area_at areas i).access
    (sym (word_at areas i 2 (omega (arith, long)) (omega arith)) ∙ ap (λ (l : List ℕ). get_or l (i * 3 + 2) 0) e)

abbrev pub Why : List ℕ → Type 0
Why words =
    (length words % 3 ≢ 0) ⊎ ((i : ℕ) × (i * 3 + 2 < length words) × MeansNothing access_word (get_or words (i * 3 + 2) 0))

pub of_no_list : (words : List ℕ) → Why words → OfNoList words
of_no_list words (inl odd) = of_three words odd
of_no_list words (inr (i, inside, none)) = of_access words i inside none

-- ---- there is a list, or a reason why there is none

access_or_none : (n : ℕ) → ((access : Access) × (access_word access ≡ n)) ⊎ MeansNothing access_word n
access_or_none zero = inl (ReadOnly, refl)
access_or_none (suc zero) = inl (ReadWrite, refl)
access_or_none (suc (suc n)) = inr none
  where
    none : MeansNothing access_word (suc (suc n))
    none ReadOnly e = omega (arith, e)
    none ReadWrite e = omega (arith, e)

abbrev OfSome : List ℕ → Type 0
OfSome words = (areas : List Area) × (area_words areas ≡ words)

-- behind three more words the reason stands three places on
why_further : (a b c : ℕ) (words : List ℕ) → Why words → Why (a ∷ b ∷ c ∷ words)
why_further a b c words (inl odd) = inl (λ e. odd (omega (arith, e)))
why_further a b c words (inr (i, inside, none)) =
    let place : suc i * 3 + 2 ≡ suc (suc (suc (i * 3 + 2))) = omega arith in
    inr (suc i, omega (arith, inside), rw place none)

pub list_or_why : (words : List ℕ) → OfSome words ⊎ Why words
unfolding area_words
list_or_why [] = inl ([], refl)
list_or_why (a ∷ []) = inr (inl (λ e. omega (arith, e)))
list_or_why (a ∷ b ∷ []) = inr (inl (λ e. omega (arith, e)))
list_or_why (first ∷ count ∷ n ∷ words) = with_rest (access_or_none n) (list_or_why words)
  where
    with_rest : ((access : Access) × (access_word access ≡ n)) ⊎ MeansNothing access_word n → OfSome words ⊎ Why words
        → OfSome (first ∷ count ∷ n ∷ words) ⊎ Why (first ∷ count ∷ n ∷ words)
    with_rest (inr none) rest = inr (inr (0, omega arith, none))
    with_rest (inl access) (inl (areas, e)) =
        inl (record { first = first; count = count; access = access.0 } ∷ areas, rw (access.1, e) refl)
    with_rest (inl access) (inr why) = inr (why_further first count n words why)

-- ---- and no two lists

access_apart : (a b : Access) → access_word a ≡ access_word b → a ≡ b
access_apart ReadOnly ReadOnly e = refl
access_apart ReadOnly ReadWrite e = absurd (omega (arith, e))
access_apart ReadWrite ReadOnly e = absurd (omega (arith, e))
access_apart ReadWrite ReadWrite e = refl

pub access_named_determined : (word : ℕ) → Determined (AccessNamed word)
access_named_determined word (Ok a) (Ok b) p q = ap Ok (access_apart a b (p ∙ sym q))
access_named_determined word (Ok a) (Err v) p (e, none) = absurd (none a p)
access_named_determined word (Err u) (Ok b) (e, none) q = absurd (none b q)
access_named_determined word (Err u) (Err v) p q = grind (arith, p.0, q.0)

pub one_list : (a b : List Area) → area_words a ≡ area_words b → a ≡ b
unfolding area_words
one_list [] [] e = refl
one_list [] (b ∷ bs) e = absurd (omega (arith, ap length e))
one_list (a ∷ as') [] e = absurd (omega (arith, ap length e))
one_list (a ∷ as') (b ∷ bs) e =
    let word : (n : ℕ) → get_or (area_words (a ∷ as')) n 0 ≡ get_or (area_words (b ∷ bs)) n 0 = λ n. ap (λ (l : List ℕ). get_or l n 0) e in
    let access = access_apart a.access b.access (word 2) in
    let area : a ≡ b = λ i. record { first = word 0 i; count = word 1 i; access = access i } in
    cc (area, one_list as' bs (ap (drop 3) e))

-- ---- what is read of the words, area by area

-- an access word that was taken, and one that was not
pub means : (word : ℕ) (named : Result Access UnknownAccess) (access : Access) → AccessNamed word named → Some access ≡ result_ok named
    → access_word access ≡ word
means word (Ok same) access e taken = ap access_word (same_Some access same taken) ∙ e
means word (Err unknown) access none taken = absurd (none-some access (sym taken))

pub means_nothing : (word : ℕ) (named : Result Access UnknownAccess) → AccessNamed word named → None ≡ result_ok named
    → MeansNothing access_word word
means_nothing word (Ok access) e taken = absurd (none-some access taken)
means_nothing word (Err unknown) (e, none) taken = none

-- the access words of the first n areas mean something
abbrev pub Named : List ℕ → ℕ → Type 0
Named words n = (i : ℕ) → i < n → (access : Access) × (access_word access ≡ get_or words (i * 3 + 2) 0)

-- the three words of area n: what is left of the words, from 3 n on, begins with them
module _ (words entry left : List ℕ) (n : ℕ) (cut : drop (n * 3) words ≡ entry ++ left) (three : length entry ≡ 3) where
  pub entry_inside : n * 3 + 3 ≤ length words
  entry_inside = omega (arith, ap length cut, length-append entry left, length-drop (n * 3) words, three)

  pub entry_left : drop ((n + 1) * 3) words ≡ left
  entry_left =
      let further : n * 3 + 3 ≡ (n + 1) * 3 = omega arith in
      ap (λ (k : ℕ). drop k words) (sym further) ∙ sym (drop-drop 3 (n * 3) words) ∙ ap (drop 3) cut
      ∙ ap (λ (k : ℕ). drop k (entry ++ left)) (sym three) ∙ drop-append_seam entry left

  entry_word : (k : ℕ) → k < 3 → get_or entry k 0 ≡ get_or words (n * 3 + k) 0
  entry_word k few =
      let inside : k < length entry = omega arith in
      sym (get_or-append entry left 0 k inside) ∙ ap (λ (l : List ℕ). get_or l k 0) (sym cut) ∙ get_or-drop (n * 3) words k 0

  -- if the third stands for an access, they are those of area n of the list whose words they are
  pub area_is : (access : Access) → access_word access ≡ get_or entry 2 0 → (areas : List Area) → area_words areas ≡ words
      → (n < length areas) × (area_at areas n ≡ record { first = get_or entry 0 0; count = get_or entry 1 0; access = access })
  area_is access named areas e =
      let inside : n < length areas = omega (arith, words_length areas, ap length e, entry_inside) in
      let word : (k : ℕ) → k < 3 → get_or (three_words (area_at areas n)) k 0 ≡ get_or entry k 0 =
      λ k few. sym (word_at areas n k inside few) ∙ ap (λ (l : List ℕ). get_or l (n * 3 + k) 0) e ∙ sym (entry_word k few) in
      let firsts = word 0 (omega arith) in
      let counts = word 1 (omega arith) in
      let accesses = access_apart (area_at areas n).access access (word 2 (omega arith) ∙ sym named) in
      (inside, λ j. record { first = firsts j; count = counts j; access = accesses j })

  -- if the third means nothing, they are of no list
  pub of_entry : MeansNothing access_word (get_or entry 2 0) → OfNoList words
  of_entry none = of_access words n (omega (arith, entry_inside)) (rw (← entry_word 2 (omega arith)) none)

  pub named_more : Named words n → (access : Access) → access_word access ≡ get_or entry 2 0 → Named words (n + 1)
  named_more named access e i less =
      elim (dec_le n i) [
        | yes reached ↦ let same : i ≡ n = omega (arith, less, reached) in (access, rw same (e ∙ entry_word 2 (omega arith)))
        | no before ↦ named i (omega (arith, before))
      ]

-- if all do, and they are three for each area, they are the words of a list
pub of_a_list : (words : List ℕ) (n : ℕ) → n * 3 ≡ length words → Named words n → OfNoList words → ⊥
of_a_list words n long named none = found (list_or_why words)
  where
    found : OfSome words ⊎ Why words → ⊥
    found (inl (areas, e)) = none areas e
    found (inr (inl odd)) = odd (omega (arith, long))
    found (inr (inr (i, inside, nothing))) =
        let (access, e) = named i (omega (arith, inside, long)) in
        nothing access e

-- ---- there is a list that words stand for

pub stands : (words : List ℕ) (image_words : ℕ) → (areas : List Area) × StandFor words image_words areas
stands words image_words = one (list_or_why words)
  where
    seventeen : List Area
    seventeen = replicate 17 empty_area

    too_long : RulesKept image_words seventeen → ⊥
    too_long kept = omega (arith, kept.at_most_sixteen, length-replicate 17 empty_area)

    one : OfSome words ⊎ Why words → (areas : List Area) × StandFor words image_words areas
    one (inl (areas, e)) = (areas, inl e)
    one (inr why) = (seventeen, inr (of_no_list words why, too_long))
