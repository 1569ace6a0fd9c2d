-- One line taken out of a block: it is the begun line with the characters up to the line feed behind it. Where the buffer has
-- cut it, it is too long for a frame, and so is what is left of it.
-- Assumes nothing.
use mathlib.Core.Path.{◌≡◌, refl, sym, ap, ◌∙◌}
use mathlib.Core.Bool.{Bool, true, false, cond}
use mathlib.Core.Logic.{inl, inr}
use mathlib.Core.List.{List, [], ◌∷◌, ◌++◌, append_assoc, append-nil}
use Prim.Native.Nat.{ℕ, zero, suc, ◌+◌, ◌≤◌, ◌<◌}
use native.Mathlib.Omega.{arith}
use lib.Dec.{leb}
use lib.ListN.{length, take, drop, get_or, length-take}
use lib.Seq.{length-take-le, take_all, take-append_seam, take-nil}
use borrow.Author.Tests.{leb-true, leb-false}
use Rattle.promise.specs.Promise.{Decides}
use Rattle.lines.specs.declared.Taken.{Taken}
use Rattle.lines.specs.Hex.{longest_line}
use Rattle.lines.specs.Lines.{line_feed, up_to_feed, heldThen, TakeLine}
use Rattle.lines.specs.Outcomes.{as_line}
use Rattle.lines.proofs.Laws.{LongLine}
use Rattle.lines.proofs.Behind.{over_longer}
use Rattle.lines.proofs.Feed.{feed_within, feed_taken, feed_append, feed_again, feed_used}
use Rattle.lines.proofs.Held.{take_again}
use Rattle.bench.specs.Bench.{Answered}
use Rattle.bench.specs.Input.{Unfed, joined, Cut, AllAnswered}
use Rattle.bench.specs.Blocks.{Holds, Passed}

unfed_append : (xs ys : List ℕ) → Unfed xs → Unfed ys → Unfed (xs ++ ys)
unfed_append xs ys x y = feed_append xs ys x ∙ ap (λ (t : List ℕ). xs ++ t) y

one_unfed : (line : List ℕ) → Unfed line → (k : ℕ) → Unfed (get_or (line ∷ []) k [])
unfolding up_to_feed
one_unfed line unfed zero = unfed
one_unfed line unfed (suc k) = refl

cut_alike : (n : ℕ) (line image after text : List ℕ) → longest_line < n → Answered (take n line) image after text
    → Answered line image after text
unfolding Answered
cut_alike n line image after text long answered = either (leb (length line) n) refl answered
  where
    longer : (m : ℕ) → m < length line → length (take m line) ≡ m
    longer m h = length-take-le m line (omega arith)

    either : (fits : Bool) → leb (length line) n ≡ fits → Answered (take n line) image after text → Answered line image after text
    either true e known = rw (take_all n line (leb-true (length line) n e)) at known
    either false e (inl (frame, says, rest)) =
        absurd (LongLine (take n line) frame (omega (arith, long, longer n (leb-false (length line) n e))) says)
    either false e (inr (none, same, bad)) =
        inr (λ frame says. LongLine line frame (omega (arith, long, leb-false (length line) n e)) says, same, bad)

module _ (block line line_after : List ℕ) (held : ℕ) (taken : Taken) (took : TakeLine block line held taken line_after) where
  size : length (heldThen held block line) ≤ length line
  size = omega (arith, length-take (length line) (take held line ++ up_to_feed block))

  same_size : length line_after ≡ length line
  same_size = ap length took.stands ∙ over_longer (heldThen held block line) line size

  pub held_within : taken.held ≤ length line
  held_within = omega (arith, took.told, size)

  pub held_inside : taken.held ≤ length line_after
  held_inside = omega (arith, held_within, same_size)

  -- the buffer holds the line as far as it goes
  held_start : (begun : List ℕ) → Holds line held begun
      → take taken.held line_after ≡ take (length line) (begun ++ up_to_feed block)
  held_start begun holds =
      let first : List ℕ = heldThen held block line in
      (rw (took.told, took.stands) (take-append_seam first (drop (length first) line)))
      ∙ ap (λ (t : List ℕ). take (length line) (t ++ up_to_feed block)) holds.start
      ∙ take_again (length line) begun (up_to_feed block)

  unfed_more : (begun : List ℕ) → Holds line held begun → Unfed (begun ++ up_to_feed block)
  unfed_more begun holds = unfed_append begun (up_to_feed block) holds.unfed (feed_again block)

  pub used_within : taken.used ≤ length block
  used_within = either taken.whole took.whole_if took.used_up
    where
      either : (whole : Bool) → Decides (length (up_to_feed block) < length block) whole
          → taken.used ≡ length (up_to_feed block) + cond whole 1 0 → taken.used ≤ length block
      either true fed used = omega (arith, fed, used)
      either false unfed used = omega (arith, used, feed_within block)

  -- what came: the characters up to the line feed, and it where there is one
  came : (begun : List ℕ) (whole : Bool) → taken.whole ≡ whole
      → begun ++ take taken.used block ≡ (begun ++ up_to_feed block) ++ cond whole (line_feed ∷ []) []
  came begun whole e =
      ap (λ (n : ℕ). begun ++ take n block) took.used_up
      ∙ (rw e (ap (λ (t : List ℕ). begun ++ t) (either whole (rw e at took.whole_if))))
      ∙ sym (append_assoc begun (up_to_feed block) (cond whole (line_feed ∷ []) []))
    where
      either : (fed : Bool) → Decides (length (up_to_feed block) < length block) fed
          → take (length (up_to_feed block) + cond fed 1 0) block ≡ up_to_feed block ++ cond fed (line_feed ∷ []) []
      either true fed = feed_used block fed
      either false unfed =
          let none : length (up_to_feed block) + 0 ≡ length (up_to_feed block) = omega arith in
          ap (λ (n : ℕ). take n block) none ∙ feed_taken block ∙ sym (append-nil (up_to_feed block))

  -- a line that is not whole stays begun
  pub line_begun : (image : List ℕ) → taken.whole ≡ false
      → Passed (take taken.used block) line held image line_after taken.held image []
  unfolding Passed AllAnswered joined up_to_feed
  line_begun image e begun holds =
      let full : List ℕ = begun ++ up_to_feed block in
      let cut : Cut (begun ++ take taken.used block) [] full = record {
        is = came begun false e ∙ append-nil full;
        each_unfed = λ k. refl;
        begun_unfed = unfed_more begun holds;
      } in
      let holds₁ : Holds line_after taken.held full = record {
        unfed = unfed_more begun holds;
        start = held_start begun holds ∙ ap (λ (n : ℕ). take n full) (sym same_size);
      } in
      ([], full, cut, (refl, refl), holds₁)

  -- a whole line is answered
  pub line_answered : (image image_after text : List ℕ) → taken.whole ≡ true → longest_line < length line
      → Answered (take taken.held line_after) image image_after text
      → Passed (take taken.used block) line held image line_after 0 image_after text
  unfolding Passed AllAnswered joined up_to_feed
  line_answered image image_after text e long answered begun holds =
      let full : List ℕ = begun ++ up_to_feed block in
      let cut : Cut (begun ++ take taken.used block) (full ∷ []) [] = record {
        is = came begun true e ∙ sym (append-nil (as_line full)) ∙ sym (append-nil (as_line full ++ []));
        each_unfed = one_unfed full (unfed_more begun holds);
        begun_unfed = refl;
      } in
      let known = cut_alike (length line) full image image_after text long (rw (held_start begun holds) at answered) in
      let holds₁ : Holds line_after 0 [] = record { unfed = refl; start = sym (take-nil (length line_after)) } in
      (full ∷ [], [], cut, (image_after, text, [], known, (refl, refl), sym (append-nil text)), holds₁)
