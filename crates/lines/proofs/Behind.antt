-- A text written behind another, in the lent part of a buffer: both are written, one behind the other.
-- Assumes nothing.
use mathlib.Core.Path.{◌≡◌, sym, ap, ◌∙◌}
use mathlib.Core.List.{List, [], ◌∷◌, ◌++◌, append_assoc, append-nil}
use Prim.Native.Nat.{ℕ, suc, ◌+◌, ◌-◌, ◌≤◌, ◌<◌}
use native.Mathlib.Numerals.{add-one}
use native.Mathlib.Omega.{arith}
use lib.ListN.{length, take, drop, get_or, set, length-append, length-drop, drop_of_length-le}
use lib.Seq.{take_all, take-append_seam, drop-append_seam, drop-drop, drop-cons, append_snoc, set-append_seam}
use Rattle.slave.specs.Answer.{over}

pub over_longer : (xs before : List ℕ) → length xs ≤ length before → length (over xs before) ≡ length before
over_longer xs before h = omega (arith, length-append xs (drop (length xs) before), length-drop (length xs) before)

pub over_behind : (xs ys before part : List ℕ) (n : ℕ) → n ≡ length xs → length xs ≤ length before
    → part ≡ over ys (take (length (over xs before) - n) (drop n (over xs before)))
    → take n (over xs before) ++ (part ++ drop (length (over xs before) - n) (drop n (over xs before))) ≡ over (xs ++ ys) before
over_behind xs ys before part n e h filled =
    let mid : List ℕ = over xs before in
    let m : ℕ = length xs in
    let rest : drop m mid ≡ drop m before = drop-append_seam xs (drop m before) in
    let many : length (drop m mid) ≤ length mid - m = omega (arith, length-drop m mid) in
    let lent : take (length mid - m) (drop m mid) ≡ drop m before = take_all (length mid - m) (drop m mid) many ∙ rest in
    let none : drop (length mid - m) (drop m mid) ≡ [] = drop_of_length-le (drop m mid) many in
    let behind : part ≡ over ys (drop m before) = (rw e at filled) ∙ ap (over ys) lent in
    rw (e, take-append_seam xs (drop m before), none, behind, append-nil, drop-drop, length-append) (
    sym (append_assoc xs ys (drop (m + length ys) before))
    )

-- one character more
pub over_one_more : (xs before : List ℕ) (c : ℕ) → length xs < length before
    → set (over xs before) (length xs) c ≡ over (xs ++ (c ∷ [])) before
over_one_more xs before c h =
    let n : ℕ = length xs in
    let more : length (xs ++ (c ∷ [])) ≡ suc n = length-append xs (c ∷ []) ∙ add-one n in
    let rest : List ℕ = drop (suc n) before in
    rw (more, append_snoc xs c rest, drop-cons before n 0 h) (set-append_seam xs (get_or before n 0) rest c)
