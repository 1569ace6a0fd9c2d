-- The characters before the first line feed are the start of the text.
-- Assumes nothing.
use mathlib.Core.Path.{◌≡◌, refl, ap}
use mathlib.Core.Bool.{Bool, true, false, cond}
use mathlib.Core.List.{List, [], ◌∷◌, ◌++◌}
use Prim.Native.Nat.{ℕ, zero, suc, ◌+◌, ◌≤◌, ◌<◌}
use native.Mathlib.Omega.{arith}
use lib.Dec.{eqb}
use lib.ListN.{length, take, drop, get_or}
use borrow.Author.Tests.{eqb-true, eq-eqb, ne_eqb}
use Rattle.lines.specs.Lines.{line_feed, up_to_feed}

pub feed_within : (text : List ℕ) → length (up_to_feed text) ≤ length text
unfolding up_to_feed
feed_within [] = omega arith
feed_within (c ∷ rest) = either (eqb c line_feed) (feed_within rest)
  where
    either : (fed : Bool) → length (up_to_feed rest) ≤ length rest → length (cond fed [] (c ∷ up_to_feed rest)) ≤ suc (length rest)
    either true h = omega arith
    either false h = omega (arith, h)

pub feed_taken : (text : List ℕ) → take (length (up_to_feed text)) text ≡ up_to_feed text
unfolding up_to_feed
feed_taken [] = refl
feed_taken (c ∷ rest) = either (eqb c line_feed) (feed_taken rest)
  where
    either : (fed : Bool) → take (length (up_to_feed rest)) rest ≡ up_to_feed rest
        → take (length (cond fed [] (c ∷ up_to_feed rest))) (c ∷ rest) ≡ cond fed [] (c ∷ up_to_feed rest)
    either true e = refl
    either false e = ap (λ (t : List ℕ). c ∷ t) e

-- behind a text without a line feed
pub feed_append : (one two : List ℕ) → up_to_feed one ≡ one → up_to_feed (one ++ two) ≡ one ++ up_to_feed two
unfolding up_to_feed
feed_append [] two none = refl
feed_append (c ∷ rest) two none = either (eqb c line_feed) none (feed_append rest two)
  where
    either : (fed : Bool) → cond fed [] (c ∷ up_to_feed rest) ≡ c ∷ rest
        → (up_to_feed rest ≡ rest → up_to_feed (rest ++ two) ≡ rest ++ up_to_feed two)
        → cond fed [] (c ∷ up_to_feed (rest ++ two)) ≡ c ∷ (rest ++ up_to_feed two)
    either true e more = absurd (omega (arith, ap length e))
    either false e more = ap (λ (t : List ℕ). c ∷ t) (more (ap (drop 1) e))

-- no line feed stands before the first one
pub feed_again : (text : List ℕ) → up_to_feed (up_to_feed text) ≡ up_to_feed text
unfolding up_to_feed
feed_again [] = refl
feed_again (c ∷ rest) = either (eqb c line_feed) refl (feed_again rest)
  where
    either : (fed : Bool) → eqb c line_feed ≡ fed → up_to_feed (up_to_feed rest) ≡ up_to_feed rest
        → up_to_feed (cond fed [] (c ∷ up_to_feed rest)) ≡ cond fed [] (c ∷ up_to_feed rest)
    either true e more = refl
    either false e more = rw (e, more) refl

-- the characters before the first line feed, and the line feed
pub feed_used : (text : List ℕ) → length (up_to_feed text) < length text
    → take (length (up_to_feed text) + 1) text ≡ up_to_feed text ++ (line_feed ∷ [])
unfolding up_to_feed
feed_used [] h = absurd (omega arith)
feed_used (c ∷ rest) h = either (eqb c line_feed) refl h (feed_used rest)
  where
    either : (fed : Bool) → eqb c line_feed ≡ fed → length (cond fed [] (c ∷ up_to_feed rest)) < suc (length rest)
        → (length (up_to_feed rest) < length rest → take (length (up_to_feed rest) + 1) rest ≡ up_to_feed rest ++ (line_feed ∷ []))
        → take (length (cond fed [] (c ∷ up_to_feed rest)) + 1) (c ∷ rest) ≡ cond fed [] (c ∷ up_to_feed rest) ++ (line_feed ∷ [])
    either true e h more = rw (eqb-true c line_feed e) refl
    either false e h more =
        let one : suc (length (up_to_feed rest)) + 1 ≡ suc (length (up_to_feed rest) + 1) = omega arith in
        rw one (ap (λ (t : List ℕ). c ∷ t) (more (omega (arith, h))))

-- ---- a first line feed, or none

pub feed_first : (text : List ℕ) (n : ℕ) → n < length text → get_or text n 0 ≡ line_feed
    → ((k : ℕ) → k < n → get_or text k 0 ≡ line_feed → ⊥) → length (up_to_feed text) ≡ n
unfolding up_to_feed
feed_first [] n h at before = absurd (omega arith)
feed_first (c ∷ rest) zero h at before = rw (eq-eqb c line_feed at) refl
feed_first (c ∷ rest) (suc n) h at before =
    rw (ne_eqb c line_feed (before 0 (omega arith)))
    (ap suc (feed_first rest n (omega arith) at (λ k below. before (suc k) (omega arith))))

pub feed_none : (text : List ℕ) → ((k : ℕ) → k < length text → get_or text k 0 ≡ line_feed → ⊥) → up_to_feed text ≡ text
unfolding up_to_feed
feed_none [] none = refl
feed_none (c ∷ rest) none =
    rw (ne_eqb c line_feed (none 0 (omega arith)))
    (ap (λ (t : List ℕ). c ∷ t) (feed_none rest (λ k below. none (suc k) (omega arith))))
