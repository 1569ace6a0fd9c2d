-- The laws of specs/Laws.antt, each under its name.
-- Assumes nothing.
use mathlib.Core.Path.{◌≡◌, sym, ap, ◌∙◌}
use mathlib.Core.Bool.{Bool, cond}
use mathlib.Core.List.{List, ◌++◌, append_assoc}
use Prim.Native.Nat.{ℕ, ◌+◌, ◌≤◌}
use native.Mathlib.Omega.{arith}
use lib.ListN.{length, take, drop, length-take}
use lib.Seq.{take-append_seam}
use Rattle.slave.specs.Answer.{over}
use Rattle.promise.proofs.Promise.{decides_determined}
use Rattle.lines.specs.declared.Taken.{Taken}
use Rattle.lines.specs.Lines.{up_to_feed, heldThen}
use Rattle.lines.specs.Hex.{ReadFrame}
use Rattle.lines.specs.Laws as laws
use Rattle.std.proofs.Common.{Some, None}
use Rattle.lines.proofs.Says.{line_apart, over_long, line_says}
use Rattle.lines.proofs.Behind.{over_longer}
use Rattle.lines.proofs.Held.{take_again}
use Rattle.lines.proofs.Feed.{feed_append}

pub OneFrame : laws.OneFrame
OneFrame line a b p q = line_apart a b (sym p.in_hex ∙ q.in_hex)

pub ReadBack : laws.ReadBack
ReadBack = line_says

pub LongLine : laws.LongLine
LongLine = over_long

pub ReadFrameDetermined : laws.ReadFrameDetermined
unfolding ReadFrame
ReadFrameDetermined line before (Some n, x) (Some m, y) p q = cc (OneFrame line p.0 q.0 p.1 q.1)
ReadFrameDetermined line before (Some n, x) (None, y) p q = absurd (q.0 p.0 p.1)
ReadFrameDetermined line before (None, x) (Some m, y) p q = absurd (p.0 q.0 q.1)
ReadFrameDetermined line before (None, x) (None, y) p q = cc (p.1, q.1)

taken_alike : (a b : Taken) → a.used ≡ b.used → a.held ≡ b.held → a.whole ≡ b.whole → a ≡ b
taken_alike a b used held whole = λ i. record { used = used i; held = held i; whole = whole i }

pub TakeLineDetermined : laws.TakeLineDetermined
TakeLineDetermined block line held a b p q =
    let whole = decides_determined _ a.0.whole b.0.whole p.whole_if q.whole_if in
    let used : a.0.used ≡ b.0.used =
    p.used_up ∙ ap (λ (w : Bool). length (up_to_feed block) + cond w 1 0) whole ∙ sym q.used_up in
    let taken = taken_alike a.0 b.0 used (p.told ∙ sym q.told) whole in
    let stands = p.stands ∙ sym q.stands in
    λ i. (taken i, stands i)

pub WrittenDetermined : laws.WrittenDetermined
WrittenDetermined text before (Some n, x) (Some m, y) p q = cc (p.1, q.1)
WrittenDetermined text before (Some n, x) (None, y) p q = absurd (q.0 p.0)
WrittenDetermined text before (None, x) (Some m, y) p q = absurd (p.0 q.0)
WrittenDetermined text before (None, x) (None, y) p q = cc (p.1, q.1)

pub InTwoBlocks : laws.InTwoBlocks
InTwoBlocks one two line held whole =
    let first : List ℕ = heldThen held one line in
    let size : length first ≤ length line = omega (arith, length-take (length line) (take held line ++ up_to_feed one)) in
    let long = over_longer first line size in
    let start : take (length first) (over first line) ≡ first = take-append_seam first (drop (length first) line) in
    rw (long, start, feed_append one two whole, whole, ← append_assoc (take held line) one (up_to_feed two))
    (take_again (length line) (take held line ++ one) (up_to_feed two))
