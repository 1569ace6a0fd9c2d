-- A byte stands at a place of a line where its three characters are a blank and the byte's digits.
-- Assumes nothing.
use mathlib.Core.Path.{◌≡◌, sym, ap, ◌∙◌}
use mathlib.Core.List.{List, [], ◌∷◌, map}
use Prim.Native.Nat.{ℕ, suc, ◌+◌, ◌*◌, ◌/◌, ◌%◌, ◌≤◌, ◌<◌}
use native.Mathlib.Numerals.{add-one}
use native.Mathlib.Omega.{arith}
use lib.ListN.{length, get_or, length-map, get_or-map}
use Rattle.lines.specs.Hex.{blank, digit, upper, spaced}
use Rattle.lines.specs.Places.{piece, StandsAt}
use Rattle.lines.proofs.Digits.{upper_blank, blank_upper}
use Rattle.lines.proofs.Pieces.{three}

upper_at : (l : List ℕ) (i : ℕ) → get_or (map upper l) i 0 ≡ upper (get_or l i 0)
unfolding upper
upper_at l i = get_or-map upper l i 0

piece_is : (line : List ℕ) (k : ℕ) → 3 * k + 2 ≤ length line
    → piece line k ≡ upper (get_or (blank ∷ line) (3 * k) 0) ∷ upper (get_or line (3 * k) 0) ∷ upper (get_or line (3 * k + 1) 0) ∷ []
unfolding piece
piece_is line k h =
    three (map upper (blank ∷ line)) (3 * k) (omega (arith, length-map line upper))
    ∙ rw (upper_at (blank ∷ line) (3 * k), upper_at line (3 * k), upper_at line (suc (3 * k)), add-one)

pub digits_stand : (line : List ℕ) (k high low : ℕ) → 3 * k + 2 ≤ length line → get_or (blank ∷ line) (3 * k) 0 ≡ blank
    → high < 16 → upper (get_or line (3 * k) 0) ≡ digit high → low < 16 → upper (get_or line (3 * k + 1) 0) ≡ digit low
    → StandsAt line k (high * 16 + low)
unfolding spaced
digits_stand line k high low long first h s l t =
    let e : (high * 16 + low) / 16 ≡ high = omega arith in
    let f : (high * 16 + low) % 16 ≡ low = omega arith in
    (omega arith, rw (piece_is line k long, first, upper_blank, s, t, e, f))

module _ (line : List ℕ) (k byte : ℕ) (long : 3 * k + 2 ≤ length line) (stands : StandsAt line k byte) where
  shown : upper (get_or (blank ∷ line) (3 * k) 0) ∷ upper (get_or line (3 * k) 0) ∷ upper (get_or line (3 * k + 1) 0) ∷ []
      ≡ blank ∷ digit (byte / 16) ∷ digit (byte % 16) ∷ []
  unfolding spaced
  shown = sym (piece_is line k long) ∙ stands.1

  pub blank_first : get_or (blank ∷ line) (3 * k) 0 ≡ blank
  blank_first = blank_upper _ (ap (λ (l : List ℕ). get_or l 0 0) shown)

  pub high_shown : upper (get_or line (3 * k) 0) ≡ digit (byte / 16)
  high_shown = ap (λ (l : List ℕ). get_or l 1 0) shown

  pub low_shown : upper (get_or line (3 * k + 1) 0) ≡ digit (byte % 16)
  low_shown = ap (λ (l : List ℕ). get_or l 2 0) shown
