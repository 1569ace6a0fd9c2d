-- For the contracts of private functions alone; no public promise cites it: the rules, from one area to the next.
-- Assumes nothing.
use Rattle.std.specs.Prelude.{List, ℕ, zero, suc, ◌≤◌, ◌<◌}
use Rattle.areas.specs.declared.Area.{Area}
use Rattle.areas.specs.Holding.{end_of, area_at}

-- an area that may stand in a list right behind one that ends at word `from`
pub record Follows (words from : ℕ) (area : Area) : Type 0 where
  pub some_word : 1 ≤ area.count
  pub behind : from ≤ area.first
  pub inside : end_of area ≤ words

-- the word behind the area before area i
abbrev pub end_before : List Area → ℕ → ℕ
end_before areas zero = 0
end_before areas (suc i) = end_of (area_at areas i)

-- each of the first n areas follows the one before it
abbrev pub Chain : ℕ → List Area → ℕ → Type 0
Chain words areas n = (i : ℕ) → i < n → Follows words (end_before areas i) (area_at areas i)
