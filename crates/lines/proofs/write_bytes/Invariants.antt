-- `write_bytes` meets its contract. Invariant: the first k bytes are written, and the rest of the text is as it was.
-- Assumes nothing.
use Rattle.std.proofs.Common.{◌≡◌, List, ◌++◌, ℕ, ◌*◌, take, drop}
use Rattle.lines.specs.Hex.{spaced}
use Rattle.lines.proofs.write_bytes.Given as goal

-- the first k bytes are written over the start of a text
abbrev pub so_far : List ℕ → List ℕ → ℕ → List ℕ
so_far bytes text k = spaced (take k bytes) ++ drop (3 * k) text

abbrev pub invariant-loop-k : goal.invariant-loop-k
invariant-loop-k l = l.text ≡ so_far l.bytes l.initial.text l.k
