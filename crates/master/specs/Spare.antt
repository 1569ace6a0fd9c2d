-- For the contracts of private functions alone; no public promise cites it. The bits of a run in its last byte.
-- Assumes nothing.
use Rattle.std.specs.Prelude.{ℕ, ◌+◌, ◌-◌, ◌%◌}
use Rattle.registers.specs.Memory.{byte_bits}

-- how many bits of a run of at least one stand in its last byte: 1 to 8, and the others of that byte are spare
unfoldable pub bits_in_last : ℕ → ℕ
bits_in_last count = (count - 1) % byte_bits + 1
