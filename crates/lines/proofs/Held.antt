-- The held start of a line with a part behind it, as far as the buffer goes: a copy of so much of the part.
-- Assumes nothing.
use mathlib.Core.Path.{◌≡◌, refl, sym, ap, ◌∙◌}
use mathlib.Core.List.{List, [], ◌∷◌, ◌++◌, append_assoc}
use Prim.Native.Nat.{ℕ, zero, suc, ◌+◌, ◌-◌, ◌≤◌, min}
use native.Mathlib.Omega.{arith}
use lib.ListN.{length, take, drop, length-take, take-append-drop}
use borrow.Rule.Slice.PartMut.{put_mid}
use lib.Seq.{drop-drop, length_paste_head, take-append_seam, take-append-add}
use Rattle.slave.specs.Answer.{over}

-- taking more than there is takes all
pub take_min : (n : ℕ) (xs : List ℕ) → take (min n (length xs)) xs ≡ take n xs
take_min n xs =
    ap (λ (k : ℕ). take k xs) (sym (length-take n xs))
    ∙ ap (take (length (take n xs))) (sym (take-append-drop n xs))
    ∙ take-append_seam (take n xs) (drop n xs)

pub held_part : (line part : List ℕ) (held from n : ℕ) → from ≡ min held (length line)
    → n ≡ min (length part) (length line - from)
    → take (length line) (take held line ++ part) ≡ take from line ++ take n part
held_part line part held from n f m =
    let start : take from line ≡ take held line = ap (λ (k : ℕ). take k line) f ∙ take_min held line in
    let long : length (take held line) ≡ from = length-take held line ∙ sym f in
    let all : length line ≡ length (take held line) + (length line - from) = omega (arith, long, f) in
    let so_many : min (length line - from) (length part) ≡ n = omega (arith, m) in
    let rest = sym (take_min (length line - from) part) ∙ ap (λ (k : ℕ). take k part) so_many in
    ap (λ (k : ℕ). take k (take held line ++ part)) all
    ∙ take-append-add (take held line) part (length line - from)
    ∙ ap (λ (t : List ℕ). take held line ++ t) rest
    ∙ ap (λ (t : List ℕ). t ++ take n part) (sym start)

pub held_over : (line part new : List ℕ) (from n k : ℕ) → from ≤ length line → n ≤ length part → k ≡ n → new ≡ take n part
    → put_mid from k line new ≡ over (take from line ++ take n part) line
held_over line part new from n k h l e f =
    let size : length (take from line ++ take n part) ≡ from + n = length_paste_head line from part n h l in
    rw (f, e, size, drop-drop n from line) (sym (append_assoc (take from line) (take n part) (drop (from + n) line)))

-- what was cut off before is cut off again
pub take_again : (n : ℕ) (xs ys : List ℕ) → take n (take n xs ++ ys) ≡ take n (xs ++ ys)
take_again zero xs ys = refl
take_again (suc n) [] ys = refl
take_again (suc n) (x ∷ xs) ys = ap (λ (t : List ℕ). x ∷ t) (take_again n xs ys)
