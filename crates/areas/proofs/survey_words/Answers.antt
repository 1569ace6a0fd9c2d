-- `survey_words` meets its contract: a turn reads the next three words; behind the last ones there is a list whose words they are.
-- Assumes nothing.
use Rattle.std.proofs.Common.{◌≡◌, ℕ, ◌+◌, ◌*◌, ◌<◌, ◌≤◌, List, length, drop, length-drop, ap, ◌∙◌, arith, rules}
use Rattle.std.proofs.lemmas.List.{length_push}
use mathlib.Core.Logic.{inl, inr}
use Rattle.areas.specs.declared.Area.{Area}
use Rattle.areas.specs.Rules.{RulesKept}
use Rattle.areas.specs.Words.{area_words, StandFor}
use Rattle.areas.proofs.Chain.{chain_kept}
use Rattle.areas.proofs.Words.{means, means_nothing, words_length, of_three, entry_inside, entry_left, area_is, of_entry, named_more, of_a_list}
use Rattle.areas.proofs.survey_words.Goals as goal
use Rattle.areas.proofs.survey_words.Goals.{then-area_words-ne0-via-then-area_words-ne0, then-area_words-ne0-via-else-area_words-ne0+then-area_words-gt-MOST_AREAS}

-- a list breaks a rule that the words stand for, if each whose words they are does
broken : (words : List ℕ) (image : ℕ) → ((areas : List Area) → area_words areas ≡ words → RulesKept image areas → ⊥)
    → (areas : List Area) → StandFor words image areas → RulesKept image areas → ⊥
broken words image each areas (inl e) = each areas e
broken words image each areas (inr (none, breaks)) = breaks

-- how many areas a list has, by its words
as_many : (words : List ℕ) (areas : List Area) → area_words areas ≡ words → length areas * 3 ≡ length words
as_many words areas e = omega (arith, words_length areas, ap length e)

pub returns-then-area_words-ne0 : goal.returns-then-area_words-ne0
returns-then-area_words-ne0 c = elim c.then-area_words-ne0.branch [
  | then-area_words-ne0-via-then-area_words-ne0 w ↦ broken _ _ (λ areas e kept. of_three _ w.if-area_words-ne0.true areas e)
  | then-area_words-ne0-via-else-area_words-ne0+then-area_words-gt-MOST_AREAS w ↦
      broken _ _ (λ areas e kept. omega (arith, as_many _ areas e, kept.at_most_sixteen))
]

pub loop-entry-init : goal.loop-entry-init
loop-entry-init c = record {
  size = search rules;
  left = search rules;
  within = omega arith;
  named = λ i less. absurd (omega arith);
  sought = λ areas e. c.begin-search.ensures areas;
}

-- an access word that means nothing
pub returns-in_err-ok : goal.returns-in_err-ok
returns-in_err-ok c =
    let inv = c.loop-entry.invariant in
    let step = c.in-Some.ensures.steps in
    let nothing = means_nothing _ _ c.try_from.ensures c.in_err-ok.ensures.value in
    let none = of_entry _ _ _ _ (inv.left ∙ step.1.0) (step.1.1 ∙ inv.size) nothing in
    rw c.from_residual.ensures (broken _ _ (λ areas e kept. none areas e))

-- an area that breaks a rule
pub returns-in_err-search : goal.returns-in_err-search
returns-in_err-search c =
    let inv = c.loop-entry.invariant in
    let step = c.in-Some.ensures.steps in
    let access = means _ _ _ c.try_from.ensures c.in_ok-ok.ensures.value in
    let area = area_is _ _ _ _ (inv.left ∙ step.1.0) (step.1.1 ∙ inv.size) _ access in
    rw c.from_residual-in_err-search.ensures
    (broken _ _ (λ areas e. c.in_err-search.ensures areas _ _ _ (area areas e).0 (area areas e).1 (inv.sought areas e)))

pub loop-entry-preserved : goal.loop-entry-preserved
loop-entry-preserved c =
    let inv = c.loop-entry.invariant in
    let step = c.in-Some.ensures.steps in
    let access = means _ _ _ c.try_from.ensures c.in_ok-ok.ensures.value in
    let words = c.args.area_words.now in
    let n = length c.loop-entry.yielded in
    let cut = inv.left ∙ step.1.0 in
    let three = step.1.1 ∙ inv.size in
    let area = area_is words _ _ n cut three _ access in
    let inside : n * 3 + 3 ≤ length words = entry_inside words _ _ n cut three in
    rw (length_push c.loop-entry.yielded c.in-Some.entry) (record {
      size = step.0 ∙ inv.size;
      left = entry_left words _ _ n cut three;
      within = omega (arith, inside);
      named = named_more words _ _ n cut three inv.named _ access;
      sought = λ areas e. c.in_ok-search.ensures areas _ _ _ (area areas e).0 (area areas e).1 (inv.sought areas e);
    })

pub returns : goal.returns
returns c =
    let inv = c.loop-entry.invariant in
    let words = c.args.area_words.now in
    let n = length c.loop-entry.yielded in
    let short : length (drop (n * 3) words) < 3 = omega (arith, c.in-None.ensures.steps.1.0, inv.size, ap length inv.left) in
    let all : n * 3 ≡ length words = omega (arith, short, length-drop (n * 3) words, inv.within) in
    λ areas. elim [
      | inl e ↦
          let long = as_many words areas e in
          let last : n ≡ length areas = omega arith in
          let so = rw last at inv.sought areas e in
          (chain_kept _ _ so.chain (omega arith), c.verdict.ensures areas c.args.words c.args.run so)
      | inr (none, breaks) ↦ absurd (of_a_list words n all inv.named none)
    ]
