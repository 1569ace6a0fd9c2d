-- For the contracts of the crate's private functions alone; no public promise cites it: a number that shows the first bits of
-- a run.
-- Assumes nothing.
use Rattle.std.specs.Prelude.{◌≡◌, ℕ, ◌^◌, ◌<◌}
use Rattle.registers.specs.Memory.{bit}

pub record Shows (width : ℕ) (run : ℕ → ℕ) (number : ℕ) : Type 0 where
  pub small : number < 2 ^ width
  pub shown : (p : ℕ) → p < width → bit number p ≡ run p
