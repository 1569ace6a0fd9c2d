-- The table of examples, as specs/Examples.antt states it. That a line says no frame is computed by a test of its text.
-- Assumes nothing.
use mathlib.Core.Path.{◌≡◌, refl, sym, ap, ◌∙◌}
use mathlib.Core.Bool.{Bool, true, false, cond, false≢true}
use mathlib.Core.List.{List, [], ◌∷◌, map}
use Prim.Native.Nat.{ℕ, suc, ◌/◌, ◌%◌, ◌<◌}
use lib.Dec.{ltb, leb, eqb}
use native.Mathlib.Omega.{arith}
use borrow.Author.Tests.{lt-ltb, le-ltb, le-leb}
use Rattle.check_word.specs.Frame.{Bytes}
use Rattle.check_word.proofs.Witnesses.{bytes_by}
use Rattle.lines.specs.Hex.{blank, digit, upper, spaced}
use Rattle.lines.specs.Outcomes.{decimal, outcome_text}
use Rattle.lines.specs.Examples as examples
use Rattle.lines.proofs.Digits.{digit_cases}
use Rattle.lines.proofs.Says.{says_spaced, empty_says}

-- ---- a line says no frame if its text fails a test: three characters each time, a blank and two digits

is_digit : ℕ → Bool
is_digit c = cond (ltb c 58) (leb 48 c) (cond (ltb c 71) (leb 65 c) false)

is_in_hex : List ℕ → Bool
is_in_hex [] = true
is_in_hex (a ∷ []) = false
is_in_hex (a ∷ b ∷ []) = false
is_in_hex (a ∷ b ∷ c ∷ rest) = cond (eqb a blank) (cond (is_digit b) (cond (is_digit c) (is_in_hex rest) false) false) false

digit_is : (d : ℕ) → d < 16 → is_digit (digit d) ≡ true
unfolding is_digit
digit_is d h =
    digit_cases d (is_digit (digit d) ≡ true)
    (λ k s. rw (lt-ltb (digit d) 58 (omega arith), le-leb 48 (digit d) (omega arith)))
    (λ k s. rw (le-ltb (digit d) 58 (omega arith), lt-ltb (digit d) 71 (omega arith), le-leb 65 (digit d) (omega arith)))

spaced_in_hex : (xs : List ℕ) → Bytes xs → is_in_hex (spaced xs) ≡ true
unfolding spaced is_in_hex
spaced_in_hex [] h = refl
spaced_in_hex (x ∷ xs) h =
    rw (digit_is (x / 16) (omega (arith, h 0)), digit_is (x % 16) (omega arith), spaced_in_hex xs (λ i. h (suc i)))

says_none : (c : ℕ) (line : List ℕ) → is_in_hex (map upper (blank ∷ c ∷ line)) ≡ false → examples.SaysNone (c ∷ line)
says_none c line none frame says =
    let shown = says_spaced (c ∷ line) frame (omega arith) says in
    false≢true (sym none ∙ ap is_in_hex shown ∙ spaced_in_hex frame says.bytes_are)

first_bytes : Bytes examples.first_frame
first_bytes = bytes_by examples.first_frame refl

pub Examples : examples.Examples
unfolding upper spaced decimal outcome_text is_digit is_in_hex
Examples = record {
  first_line = record { in_hex = refl; bytes_are = first_bytes; not_over = omega arith };
  lower_case = record { in_hex = refl; bytes_are = first_bytes; not_over = omega arith };
  empty_line = empty_says [] refl;
  no_digit = says_none _ _ refl;
  one_digit = says_none _ _ refl;
  three_digits = says_none _ _ refl;
  blank_before = says_none _ _ refl;
  blank_behind = says_none _ _ refl;
  two_blanks = says_none _ _ refl;
  tab_between = says_none _ _ refl;
  nul_between = says_none _ _ refl;
  carriage_return_behind = says_none _ _ refl;
  exception_8 = λ rest. refl;
  silence_10 = λ reply. refl;
  silence_11 = λ reply. refl;
  refusal_4 = λ reply. refl;
}
