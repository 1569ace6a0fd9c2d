-- What passed before, and what passed then, passed one behind the other.
-- Assumes nothing.
use mathlib.Core.Path.{◌≡◌, refl, sym, ap, ◌∙◌}
use mathlib.Core.List.{List, [], ◌∷◌, ◌++◌, append_assoc, append-nil}
use Prim.Native.Nat.{ℕ, zero, suc}
use lib.ListN.{get_or}
use Rattle.lines.specs.Lines.{up_to_feed}
use Rattle.lines.specs.Outcomes.{as_line}
use Rattle.bench.specs.Input.{Unfed, joined, Cut, AllAnswered}
use Rattle.bench.specs.Blocks.{Passed}

joined_append : (xs ys : List (List ℕ)) → joined (xs ++ ys) ≡ joined xs ++ joined ys
unfolding joined
joined_append [] ys = refl
joined_append (x ∷ xs) ys =
    ap (λ (t : List ℕ). as_line x ++ t) (joined_append xs ys) ∙ sym (append_assoc (as_line x) (joined xs) (joined ys))

each_append : (xs ys : List (List ℕ)) → ((k : ℕ) → Unfed (get_or xs k [])) → ((k : ℕ) → Unfed (get_or ys k []))
    → (k : ℕ) → Unfed (get_or (xs ++ ys) k [])
each_append [] ys left right k = right k
each_append (x ∷ xs) ys left right zero = left 0
each_append (x ∷ xs) ys left right (suc k) = each_append xs ys (λ j. left (suc j)) right k

all_append : (xs ys : List (List ℕ)) (image between after one two : List ℕ) → AllAnswered xs image between one
    → AllAnswered ys between after two → AllAnswered (xs ++ ys) image after (one ++ two)
unfolding AllAnswered
all_append [] ys image between after one two (same, none) more = rw (none, ← same) more
all_append (x ∷ xs) ys image between after one two (mid, first, others, answered, rest, e) more = (
  mid,
  first,
  others ++ two,
  answered,
  all_append xs ys mid between after others two rest more,
  ap (λ (t : List ℕ). t ++ two) e ∙ append_assoc first others two,
)

pub nothing_passed : (line image : List ℕ) (held : ℕ) → Passed [] line held image line held image []
unfolding Passed AllAnswered joined up_to_feed
nothing_passed line image held begun holds =
    ([], begun, record { is = append-nil begun; each_unfed = λ k. refl; begun_unfed = holds.unfed }, (refl, refl), holds)

pub passed_then : (a b line line₁ line₂ image image₁ image₂ one two : List ℕ) (held held₁ held₂ : ℕ)
    → Passed a line held image line₁ held₁ image₁ one → Passed b line₁ held₁ image₁ line₂ held₂ image₂ two
    → Passed (a ++ b) line held image line₂ held₂ image₂ (one ++ two)
unfolding Passed
passed_then a b line line₁ line₂ image image₁ image₂ one two held held₁ held₂ first then begun holds =
    let (w₁, rest₁, cut₁, answered₁, holds₁) = first begun holds in
    let (w₂, rest₂, cut₂, answered₂, holds₂) = then rest₁ holds₁ in
    let whole : begun ++ (a ++ b) ≡ joined (w₁ ++ w₂) ++ rest₂ =
    sym (append_assoc begun a b) ∙ ap (λ (t : List ℕ). t ++ b) cut₁.is ∙ append_assoc (joined w₁) rest₁ b
    ∙ ap (λ (t : List ℕ). joined w₁ ++ t) cut₂.is ∙ sym (append_assoc (joined w₁) (joined w₂) rest₂)
    ∙ ap (λ (t : List ℕ). t ++ rest₂) (sym (joined_append w₁ w₂)) in
    let cut : Cut (begun ++ (a ++ b)) (w₁ ++ w₂) rest₂ = record {
      is = whole;
      each_unfed = each_append w₁ w₂ cut₁.each_unfed cut₂.each_unfed;
      begun_unfed = cut₂.begun_unfed;
    } in
    (w₁ ++ w₂, rest₂, cut, all_append w₁ w₂ image image₁ image₂ one two answered₁ answered₂, holds₂)
