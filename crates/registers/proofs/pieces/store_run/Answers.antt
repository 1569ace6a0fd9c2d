-- `store_run` meets its contract: what fits into the run's first word, and then the rest, if any.
-- Assumes nothing.
use Rattle.std.proofs.Common.{arith, ap, subst, ◌≡◌, List, ℕ, ◌+◌, ◌-◌, ◌*◌, ◌/◌, ◌%◌, ◌≤◌, ◌<◌, min}
use Rattle.std.proofs.Math.Nat.{zero-add, div-add-mod'}
use Rattle.registers.specs.Memory.{word_bits, bit, from}
use Rattle.registers.specs.Packing.{packed_bit}
use Rattle.registers.specs.Storing.{BitsStored}
use Rattle.registers.specs.Pieces.{Shows}
use Rattle.registers.proofs.Shows.{shows_run}
use Rattle.registers.proofs.Stored.{stored_shown, stored_join}
use Rattle.registers.proofs.pieces.store_run.Goals as goal

-- the first bits, up to sixteen, stored as a piece of the run's first word
first_word : (first width bits : ℕ) (bytes x y : List ℕ) → width ≤ word_bits → Shows word_bits (from 0 (packed_bit bytes)) bits
    → BitsStored (first / 16 * word_bits + first % 16) width (bit bits) x y → BitsStored first width (packed_bit bytes) x y
first_word first width bits bytes x y h shows s =
    stored_shown h
    (shows_run shows (λ p below. ap (packed_bit bytes) (zero-add p)))
    (rw (div-add-mod' first 16) at s)

-- the rest, if there is one, starts behind them
rest_behind : (first count n : ℕ) (run : ℕ → ℕ) (x y : List ℕ) → n ≡ min count (16 - first % 16) → n < count
    → BitsStored ((first / 16 + 1) * word_bits) (count - n) run x y → BitsStored (first + n) (count - n) run x y
rest_behind first count n run x y e more s =
    let at : (first / 16 + 1) * 16 ≡ first + n = omega arith in
    rw at at s

pub returns : goal.returns
returns c =
    let bytes = c.args.bytes.now in
    let first = c.args.first in
    let count = c.args.count in
    let before = c.args.image.now in
    let mid = c.store_piece.new.image in
    let after = c.store_rest.new.image in
    let n = c.min-head.result in
    let all : n + (count - n) ≡ count = omega arith in
    subst (λ (m : ℕ). BitsStored first m (packed_bit bytes) before after) all
    (stored_join
    (first_word first n c.packed_bits.result bytes before mid (omega arith) c.packed_bits.ensures c.store_piece.ensures)
    (rest_behind first count n (from n (packed_bit bytes)) mid after c.min-head.ensures (omega arith) c.store_rest.ensures))
