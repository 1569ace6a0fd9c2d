-- `write_bytes` meets its contract.
-- Assumes nothing.
use Rattle.std.proofs.Common.{◌≡◌, refl, sym, ap, ◌∙◌, List, [], ◌∷◌, ◌++◌, ℕ, ◌+◌, ◌*◌, ◌-◌, ◌≤◌, ◌<◌, length, take, drop, get_or, arith, add-one}
use Rattle.std.proofs.Math.Seq.{take-suc, take_at, drop_at, drop-drop, length-take-le, take-length}
use mathlib.Core.List.{append_assoc}
use borrow.Rule.Slice.PartMut.{put_mid}
use Rattle.lines.specs.Hex.{spaced}
use Rattle.lines.proofs.Spaced.{length_spaced, spaced_append}
use Rattle.lines.proofs.write_bytes.Invariants.{so_far}
use Rattle.lines.proofs.write_bytes.Goals as goal

long : (bytes : List ℕ) (k : ℕ) → k ≤ length bytes → length (spaced (take k bytes)) ≡ 3 * k
long bytes k h = length_spaced (take k bytes) ∙ ap (λ (n : ℕ). 3 * n) (length-take-le k bytes h)

one_more : (bytes text : List ℕ) (k : ℕ) → k < length bytes
    → put_mid (3 * k) (3 * k + 3 - 3 * k) (so_far bytes text k) (spaced (get_or bytes k 0 ∷ [])) ≡ so_far bytes text (k + 1)
one_more bytes text k h =
    let size = long bytes k (omega arith) in
    let b = get_or bytes k 0 in
    let start = take_at (spaced (take k bytes)) (drop (3 * k) text) (3 * k) size in
    let rest = drop_at (spaced (take k bytes)) (drop (3 * k) text) (3 * k) size in
    let three : 3 * k + 3 - 3 * k ≡ 3 = omega arith in
    let next : 3 * k + 3 ≡ 3 * (k + 1) = omega arith in
    let past : drop 3 (drop (3 * k) (so_far bytes text k)) ≡ drop (3 * (k + 1)) text =
    ap (drop 3) rest ∙ drop-drop 3 (3 * k) text ∙ ap (λ (n : ℕ). drop n text) next in
    let more : spaced (take (k + 1) bytes) ≡ spaced (take k bytes) ++ spaced (b ∷ []) =
    ap (λ (n : ℕ). spaced (take n bytes)) (add-one k) ∙ ap spaced (take-suc bytes k 0 h)
    ∙ spaced_append (take k bytes) (b ∷ []) in
    rw (three, start, past, more) (sym (append_assoc (spaced (take k bytes)) (spaced (b ∷ [])) (drop (3 * (k + 1)) text)))

pub returns-then-text-bytes : goal.returns-then-text-bytes
returns-then-text-bytes c = (λ room. omega (arith, room, length_spaced c.args.bytes.now), refl)

pub loop-k-init : goal.loop-k-init
unfolding spaced
loop-k-init c = refl

pub loop-k-preserved : goal.loop-k-preserved
loop-k-preserved c =
    rw (c.copy_from_slice.ensures.after, c.spaced.ensures, c.loop-k.invariant)
    (one_more c.args.bytes.now c.args.text.now c.loop-k.k (omega arith))

pub returns : goal.returns
returns c =
    let bytes = c.args.bytes.now in
    let all : c.loop-k.k ≡ length bytes = omega arith in
    let size = length_spaced bytes in
    let text = rw (all, take-length) at c.loop-k.invariant in
    (omega (arith, size), sym size, rw size text)
