-- Texts that stand in the start of a buffer: none, one that was written, and one that is of another kind too.
-- Assumes nothing.
use mathlib.Core.Path.{◌≡◌, refl, ap, ◌∙◌}
use mathlib.Core.List.{List, []}
use Prim.Native.Nat.{ℕ, ◌≤◌}
use native.Mathlib.Omega.{arith}
use lib.ListN.{length}
use Rattle.std.proofs.Common.{Option, Some, None, IsSome}
use Rattle.lines.specs.Outcomes.{Written}
use Rattle.lines.proofs.Behind.{over_longer}
use Rattle.bench.specs.Bench.{Stands}

pub stands_none : (Kind : List ℕ → Type 0) (before : List ℕ) → Kind [] → Stands Kind before 0 before
stands_none Kind before kind = record { text = []; is_of_the_kind = kind; within = omega arith; told = refl; stands = refl }

-- a text that has room is written ..
pub is_written : (text before after : List ℕ) (r : Option ℕ) → Written text before r after → length text ≤ length before → IsSome r
is_written text before after (Some n) written room = refl
is_written text before after None written room = absurd (written.0 room)

-- .. and stands in the start of the buffer
pub written_stands : (Kind : List ℕ → Type 0) (text before after : List ℕ) (r : Option ℕ) (n : ℕ) → Written text before r after
    → r ≡ Some n → Kind text → Stands Kind before n after
written_stands Kind text before after r n written some kind =
    let done = rw some at written in
    record { text = text; is_of_the_kind = kind; within = done.0; told = done.1; stands = done.2 }

module _ (Kind : List ℕ → Type 0) (before after : List ℕ) (n : ℕ) (s : Stands Kind before n after) where
  pub stands_as : (Other : List ℕ → Type 0) → ((text : List ℕ) → Kind text → Other text) → Stands Other before n after
  stands_as Other turned = record {
    text = s.text;
    is_of_the_kind = turned s.text s.is_of_the_kind;
    within = s.within;
    told = s.told;
    stands = s.stands;
  }

  pub stands_size : length after ≡ length before
  stands_size = ap length s.stands ∙ over_longer s.text before s.within
