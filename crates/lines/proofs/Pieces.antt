-- A text in pieces of three characters: the k-th piece of bytes in hex is byte k in hex, and a text of such pieces is those
-- bytes.
-- Assumes nothing.
use mathlib.Core.Path.{◌≡◌, refl, sym, ap, ap₂, ◌∙◌}
use mathlib.Core.List.{List, [], ◌∷◌, ◌++◌}
use Prim.Native.Nat.{ℕ, zero, suc, ◌+◌, ◌*◌, ◌≤◌, ◌<◌}
use native.Mathlib.Omega.{arith}
use lib.ListN.{length, take, drop, get_or, take-append-drop, length-drop}
use lib.Seq.{drop-cons, drop-drop}
use Rattle.lines.specs.Hex.{spaced}

-- three characters of a text, one by one
pub three : (l : List ℕ) (i : ℕ) → i + 3 ≤ length l
    → take 3 (drop i l) ≡ get_or l i 0 ∷ get_or l (suc i) 0 ∷ get_or l (suc (suc i)) 0 ∷ []
three l i h =
    let first : i < length l = omega arith in
    let second : suc i < length l = omega arith in
    let third : suc (suc i) < length l = omega arith in
    rw (drop-cons l i 0, drop-cons l (suc i) 0, drop-cons l (suc (suc i)) 0)

pub taken : (bytes : List ℕ) (k : ℕ) → k < length bytes → take 3 (drop (3 * k) (spaced bytes)) ≡ spaced (get_or bytes k 0 ∷ [])
unfolding spaced
taken [] k h = absurd (omega arith)
taken (byte ∷ bytes) zero h = refl
taken (byte ∷ bytes) (suc k) h =
    let e : 3 * suc k ≡ suc (suc (suc (3 * k))) = omega arith in
    rw e (taken bytes k (omega arith))

pub assembled : (bytes text : List ℕ) → length text ≡ 3 * length bytes
    → ((k : ℕ) → k < length bytes → take 3 (drop (3 * k) text) ≡ spaced (get_or bytes k 0 ∷ [])) → text ≡ spaced bytes
unfolding spaced
assembled [] [] h each = refl
assembled [] (c ∷ text) h each = absurd (omega arith)
assembled (byte ∷ bytes) text h each =
    sym (take-append-drop 3 text)
    ∙ ap₂ (λ (p q : List ℕ). p ++ q) (each 0 (omega arith))
    (assembled bytes (drop 3 text) (omega (arith, length-drop 3 text))
    (λ k below.
    let e : 3 * suc k ≡ 3 + 3 * k = omega arith in
    ap (take 3) (drop-drop (3 * k) 3 text) ∙ (rw e at (each (suc k) (omega arith)))))
