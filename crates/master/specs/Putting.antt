-- For the contracts of private functions alone; no public promise cites it. What is put into a buffer on the way to a request.
-- Assumes nothing.
use Rattle.std.specs.Prelude.{◌≡◌, List, ◌∷◌, ◌++◌, ℕ, ◌+◌, length, take, drop}
use Rattle.frames.specs.declared.Width.{Width}
use Rattle.frames.specs.Limits.{bytes_for}
use Rattle.master.specs.Building.{PackedAgain}

-- byte count and data, behind a request's head
pub record RunPut (width : Width) (count : ℕ) (carried before after : List ℕ) : Type 0 where
  pub packed : List ℕ
  pub are_packed : PackedAgain width count carried packed
  pub written : after ≡ take 6 before ++ (bytes_for width count ∷ packed) ++ drop (7 + length carried) before
