-- `without_spare_bits` meets its contract.
-- Assumes nothing.
use Rattle.std.proofs.Common.{arith, ap, ◌∙◌, ◌≡◌, ℕ, ◌*◌, ◌%◌, ◌^◌, ◌≤◌, pow_pos, shl_exact}
use Rattle.master.specs.Spare.{bits_in_last}
use Rattle.master.proofs.spare.without_spare_bits.Goals as goal

-- two to the power of up to 8 is not cut off
power : (used : ℕ) → used ≤ 8 → 1 * 2 ^ used % 65536 ≡ 2 ^ used
power used h =
    let one : 1 * 2 ^ used ≡ 2 ^ used = omega arith in
    shl_exact 1 used 16 (omega arith) (omega arith) ∙ one

few : (count : ℕ) → bits_in_last count ≤ 8
unfolding bits_in_last
few count = omega arith

-- the divisor
divisor : (count used : ℕ) → used ≡ bits_in_last count → 1 * 2 ^ used % 65536 ≡ 2 ^ bits_in_last count
divisor count used e = rw e (power (bits_in_last count) (few count))

pub overflow_cast-result-2 : goal.overflow_cast-result-2
overflow_cast-result-2 c = record { fits = omega (arith, c.bits_in_last.ensures, few c.args.count) }

pub overflow_shl-result : goal.overflow_shl-result
overflow_shl-result c = omega (arith, c.bits_in_last.ensures, few c.args.count)

pub nonzero_rem-result : goal.nonzero_rem-result
nonzero_rem-result c = rw (divisor c.args.count c.bits_in_last.result c.bits_in_last.ensures) (pow_pos (bits_in_last c.args.count))

pub returns : goal.returns
returns c =
    ap (λ (m : ℕ). c.args.last % m) (divisor c.args.count c.bits_in_last.result c.bits_in_last.ensures)
