-- Bytes that stand at the first places of a line, put over the start of a buffer, one more each time.
-- Assumes nothing.
use mathlib.Core.Path.{◌≡◌, refl}
use mathlib.Core.List.{List, [], ◌∷◌, ◌++◌}
use Prim.Native.Nat.{ℕ, suc, ◌+◌, ◌<◌}
use native.Mathlib.Omega.{arith}
use borrow.Author.Count.{below_more}
use lib.ListN.{length, drop, get_or, set, length-append, get_or-append}
use lib.Seq.{drop-cons, append_snoc, set_at, get_or_at}
use Rattle.slave.specs.Answer.{over}
use Rattle.lines.specs.Places.{StandsAt}

-- the bytes at the first n places, put over the start of a buffer
pub record Filled (line : List ℕ) (n : ℕ) (before after : List ℕ) : Type 0 where
  pub bytes : List ℕ
  pub so_many : length bytes ≡ n
  pub each : (k : ℕ) → k < n → StandsAt line k (get_or bytes k 0)
  pub stand : after ≡ over bytes before

pub filled_none : (line before : List ℕ) → Filled line 0 before before
filled_none line before = record { bytes = []; so_many = refl; each = λ k h. absurd (omega arith); stand = refl }

pub filled_next : (line : List ℕ) (k byte : ℕ) (before after : List ℕ) → Filled line k before after → k < length before
    → StandsAt line k byte → Filled line (k + 1) before (set after k byte)
filled_next line k byte before after f h stands =
    let bytes = f.bytes in
    let more = bytes ++ (byte ∷ []) in
    let long : length more ≡ suc k = omega (arith, length-append bytes (byte ∷ []), f.so_many) in
    record {
      bytes = more;
      so_many = omega arith;
      each =
          below_more (λ (i : ℕ). StandsAt line i (get_or more i 0)) k
          (λ i l. rw (get_or-append bytes (byte ∷ []) 0 i (omega (arith, f.so_many))) (f.each i l))
          (rw (get_or_at bytes byte [] 0 k f.so_many) stands);
      stand =
          rw (f.stand, f.so_many, long, drop-cons before k 0 h, append_snoc bytes byte (drop (suc k) before))
          (set_at bytes (get_or before k 0) (drop (suc k) before) byte k f.so_many);
    }
