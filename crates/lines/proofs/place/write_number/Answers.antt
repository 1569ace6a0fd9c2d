-- `write_number` meets its contract: the number is written by one digit below 10, else by two.
-- Assumes nothing.
use Rattle.std.proofs.Common.{arith, ◌≡◌, refl, ap, ◌∙◌, List, ℕ, [], ◌∷◌, ◌++◌, ◌+◌, ◌/◌, ◌%◌, ◌≤◌, ◌<◌, append_assoc}
use borrow.Author.Tests.{lt-ltb, le-ltb}
use Rattle.lines.specs.Hex.{blank}
use Rattle.lines.specs.Lines.{line_feed}
use Rattle.lines.specs.Outcomes.{decimal, as_line}
use Rattle.lines.proofs.place.write_number.Goals as goal

one_digit : (word : List ℕ) (n : ℕ) → n < 10 → as_line (word ++ decimal n) ≡ word ++ (blank ∷ (48 + n) ∷ line_feed ∷ [])
unfolding decimal
one_digit word n h =
    let e : n % 10 ≡ n = omega arith in
    append_assoc word (decimal n) (line_feed ∷ []) ∙ ap (λ (t : List ℕ). word ++ t) (simp (lt-ltb n 10 h, e) refl)

two_digits : (word : List ℕ) (n : ℕ) → 10 ≤ n
    → as_line (word ++ decimal n) ≡ word ++ (blank ∷ (48 + n / 10) ∷ (48 + n % 10) ∷ line_feed ∷ [])
unfolding decimal
two_digits word n h = append_assoc word (decimal n) (line_feed ∷ []) ∙ ap (λ (t : List ℕ). word ++ t) (simp (le-ltb n 10 h) refl)

pub returns-then-number-lt10 : goal.returns-then-number-lt10
returns-then-number-lt10 c = rw (one_digit c.args.word.now c.args.number (omega arith)) c.write_two.ensures

pub returns : goal.returns
returns c = rw (two_digits c.args.word.now c.args.number (omega arith)) c.write_two-2.ensures
