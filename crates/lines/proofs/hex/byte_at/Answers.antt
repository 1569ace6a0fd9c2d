-- `byte_at` meets its contract: a byte stands where there is a blank and two digits, and nowhere else.
-- Assumes nothing.
use Rattle.std.proofs.Common.{◌≡◌, sym, ap, ◌∙◌, List, ◌∷◌, ℕ, suc, ◌*◌, ◌-◌, ◌/◌, ◌%◌, ◌≤◌, ◌<◌, get_or, arith}
use Rattle.lines.specs.Hex.{blank}
use Rattle.lines.proofs.Places.{digits_stand, blank_first, high_shown, low_shown}
use Rattle.lines.proofs.hex.byte_at.Goals as goal
use Rattle.lines.proofs.hex.byte_at.Goals.{else-k-gt0-via-then-k-gt0+else-line-k-ne-BLANK, else-k-gt0-via-else-k-gt0}

-- the character before the digits of a byte: of the first, the blank that is set there
before_first : (line : List ℕ) (k : ℕ) → k ≤ 0 → get_or (blank ∷ line) (3 * k) 0 ≡ blank
before_first line k h = let e : 3 * k ≡ 0 = omega arith in ap (λ (i : ℕ). get_or (blank ∷ line) i 0) e

before_other : (line : List ℕ) (k : ℕ) → 0 < k → get_or (blank ∷ line) (3 * k) 0 ≡ get_or line (3 * k - 1) 0
before_other line k h = let e : 3 * k ≡ suc (3 * k - 1) = omega arith in ap (λ (i : ℕ). get_or (blank ∷ line) i 0) e

pub returns-then-line-k-ne-BLANK : goal.returns-then-line-k-ne-BLANK
returns-then-line-k-ne-BLANK c byte stands =
    let line = c.args.line.now in
    c.if-line-k-ne-BLANK.true
    (sym (before_other line c.args.k c.if-k-gt0.true) ∙ blank_first line c.args.k byte c.requires stands)

pub returns-in_err-high : goal.returns-in_err-high
returns-in_err-high c =
    rw c.from_residual.ensures
    (λ byte stands. c.in_err-high.ensures (byte / 16) (omega (arith, stands.0))
    (high_shown c.args.line.now c.args.k byte c.requires stands))

pub returns-in_err-low : goal.returns-in_err-low
returns-in_err-low c =
    rw c.from_residual-in_err-low.ensures
    (λ byte stands. c.in_err-low.ensures (byte % 16) (omega arith)
    (low_shown c.args.line.now c.args.k byte c.requires stands))

pub returns : goal.returns
returns c =
    let line = c.args.line.now in
    let k = c.args.k in
    let high = c.in_ok-high in
    let low = c.in_ok-low in
    let first : get_or (blank ∷ line) (3 * k) 0 ≡ blank =
    elim c.else-k-gt0.branch [
      | else-k-gt0-via-then-k-gt0+else-line-k-ne-BLANK w ↦ before_other line k w.if-k-gt0.true ∙ w.if-line-k-ne-BLANK.false
      | else-k-gt0-via-else-k-gt0 w ↦ before_first line k w.if-k-gt0.false
    ] in
    digits_stand line k high.high low.low c.requires first high.ensures.0 high.ensures.1 low.ensures.0 low.ensures.1
