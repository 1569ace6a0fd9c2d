-- `read_frame` meets its contract: a line of 3 n - 1 characters says a frame where a byte stands at each of its n places.
-- Assumes nothing.
use Rattle.std.proofs.Common.{◌≡◌, refl, sym, [], ◌+◌, ◌*◌, ◌/◌, length, arith}
use Rattle.lines.specs.Hex.{ReadFrame}
use Rattle.lines.proofs.Says.{length_says, over_long, says_stand, filled_says, empty_says}
use Rattle.lines.proofs.Stands.{filled_none, filled_next}
use Rattle.lines.proofs.read_frame.Goals as goal

pub returns-then-line-eq0 : goal.returns-then-line-eq0
unfolding ReadFrame
returns-then-line-eq0 c = ([], empty_says c.args.line.now c.if-line-eq0.true, refl, refl)

pub returns-then-line-gt-LONGEST_LINE : goal.returns-then-line-gt-LONGEST_LINE
unfolding ReadFrame
returns-then-line-gt-LONGEST_LINE c = (λ bytes. over_long c.args.line.now bytes (omega arith), refl)

pub returns-then-line-ne2 : goal.returns-then-line-ne2
unfolding ReadFrame
returns-then-line-ne2 c = (λ bytes says. omega (arith, length_says c.args.line.now bytes says), refl)

pub loop-k-init : goal.loop-k-init
loop-k-init c = filled_none c.args.line.now c.args.frame.now

pub returns-in_err-read : goal.returns-in_err-read
unfolding ReadFrame
returns-in_err-read c =
    let line = c.args.line.now in
    rw c.from_residual.ensures (
      λ bytes says.
          let many : length bytes ≡ (length line + 1) / 3 = omega (arith, length_says line bytes says) in
          c.in_err-read.ensures _ (says_stand line bytes (omega arith) says c.loop-k.k (omega arith)),
      refl,
    )

pub loop-k-preserved : goal.loop-k-preserved
loop-k-preserved c =
    let at = c.loop-k in
    filled_next c.args.line.now at.k _ c.args.frame.now at.read at.invariant (omega arith) c.in_ok-read.ensures

pub returns : goal.returns
unfolding ReadFrame
returns c =
    let line = c.args.line.now in
    let n = (length line + 1) / 3 in
    let all : c.loop-k.k ≡ n = omega arith in
    let filled = rw all at c.loop-k.invariant in
    let long : length line + 1 ≡ 3 * n = omega arith in
    let says = filled_says line n c.args.frame.now _ filled long (omega arith) in
    (filled.bytes, says, sym filled.so_many, filled.stand)
