-- A buffer that is filled from its start on, store by store.
-- Assumes nothing.
use mathlib.Core.Path.{◌≡◌, refl, sym, ap, ◌∙◌, subst}
use mathlib.Core.List.{List, [], ◌++◌}
use Prim.Native.Nat.{ℕ, ◌+◌, ◌*◌, ◌≤◌}
use native.Mathlib.Omega.{arith}
use lib.ListN.{length, take, drop, length-append}
use lib.Seq.{length-take-le, sets, sets-eq, length-sets, take_at, drop_at, drop-drop}
use Rattle.registers.specs.Memory.{from}
use Rattle.registers.specs.Packing.{BitsPacked, Filled}
use Rattle.registers.proofs.Packed.{packed_join}

-- nothing is filled yet
pub filled_none : (Shown : List ℕ → Type 0) (buffer : List ℕ) → Shown [] → Filled 0 Shown buffer buffer
filled_none Shown buffer p = record { as_long = refl; front = p; rest = refl }

-- what is filled shows something else as well
pub filled_shown : (n : ℕ) (Shown Other : List ℕ → Type 0) (before after : List ℕ) → (Shown (take n after) → Other (take n after))
    → Filled n Shown before after → Filled n Other before after
filled_shown n Shown Other before after also f = record { as_long = f.as_long; front = also f.front; rest = f.rest }

-- stores behind what is filled
pub filled_sets : (n m : ℕ) (Shown More : List ℕ → Type 0) (before mid ys : List ℕ) → Filled n Shown before mid
    → n + length ys ≡ m → m ≤ length before → (Shown (take n mid) → More (take n mid ++ ys)) → Filled m More before (sets mid n ys)
filled_sets n m Shown More before mid ys f e h more =
    let fits : n + length ys ≤ length mid = omega arith in
    let cut : sets mid n ys ≡ take n mid ++ ys ++ drop (n + length ys) mid = sets-eq ys mid n fits in
    let long : length (take n mid ++ ys) ≡ m = length-append (take n mid) ys ∙ omega (arith, length-take-le n mid (omega arith)) in
    record {
      as_long = length-sets mid n ys ∙ f.as_long;
      front = subst More (sym (ap (take m) cut ∙ take_at (take n mid ++ ys) (drop (n + length ys) mid) m long)) (more f.front);
      rest =
          ap (drop m) cut ∙ drop_at (take n mid ++ ys) (drop (n + length ys) mid) m long ∙ sym (drop-drop (length ys) n mid)
          ∙ ap (drop (length ys)) f.rest ∙ drop-drop (length ys) n before ∙ ap (λ (k : ℕ). drop k before) e;
    }

-- the bytes of whole words of a run, and behind them those of the next bits
pub filled_more : (i width m : ℕ) (run : ℕ → ℕ) (before mid ys : List ℕ) → Filled (2 * i) (BitsPacked (i * 16) run) before mid
    → BitsPacked width (from (i * 16) run) ys → 2 * i + length ys ≡ m → m ≤ length before
    → Filled m (BitsPacked (i * 16 + width) run) before (sets mid (2 * i) ys)
filled_more i width m run before mid ys filled p e h =
    filled_sets (2 * i) m (BitsPacked (i * 16) run) (BitsPacked (i * 16 + width) run) before mid ys filled e h
    (λ q. packed_join (i * 16) width run (take (2 * i) mid) ys (omega arith) q p)
