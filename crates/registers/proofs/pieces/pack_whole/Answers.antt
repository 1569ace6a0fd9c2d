-- `pack_whole` meets its contract: one turn packs sixteen bits more.
-- Assumes nothing.
use Rattle.std.proofs.Common.{arith, ◌≡◌, List, [], ◌∷◌, ℕ, suc, ◌+◌, ◌*◌, ◌/◌, ◌%◌, ◌≤◌, length, get_or}
use Rattle.std.proofs.Math.ListN.{set}
use Rattle.registers.specs.Memory.{word_bits, image_bit, from}
use Rattle.registers.specs.Packing.{BitsPacked, Filled}
use Rattle.registers.specs.Pieces.{Shows}
use Rattle.registers.proofs.Packed.{packed_none, packed_two_bytes}
use Rattle.registers.proofs.Filled.{filled_none, filled_more}
use Rattle.registers.proofs.pieces.pack_whole.Goals as goal

-- one turn
sixteen_more : (before buffer pair : List ℕ) (i bits : ℕ) (run : ℕ → ℕ) → Shows word_bits (from (i * word_bits) run) bits
    → pair ≡ bits % 256 ∷ bits / 256 % 256 ∷ [] → Filled (2 * i) (BitsPacked (i * word_bits) run) before buffer
    → 2 * i + 2 ≤ length before
    → Filled (2 * (i + 1)) (BitsPacked ((i + 1) * word_bits) run) before
    (set (set buffer (2 * i) (get_or pair 0 0)) (2 * i + 1) (get_or pair 1 0))
sixteen_more before buffer pair i bits run s e filled room =
    let high : bits / 256 % 256 ≡ bits / 256 = omega (arith, s.small) in
    let last : 2 * i + 1 ≡ suc (2 * i) = omega arith in
    let more : i * 16 + 16 ≡ (i + 1) * 16 = omega arith in
    rw (e, high, last, ← more)
    (filled_more i 16 (2 * (i + 1)) run before buffer (bits % 256 ∷ bits / 256 ∷ []) filled
    (packed_two_bytes 16 (from (i * 16) run) bits (omega arith) (omega arith) s) (omega arith) (omega arith))

pub loop-i-init : goal.loop-i-init
loop-i-init c = filled_none _ c.args.buffer.now (packed_none _)

pub loop-i-preserved : goal.loop-i-preserved
loop-i-preserved c =
    sixteen_more c.args.buffer.now c.loop-i.buffer c.to_le_bytes.result c.loop-i.i c.image_bits.result
    (from c.args.first (image_bit c.args.image.now)) c.image_bits.ensures c.to_le_bytes.ensures c.loop-i.invariant (omega arith)
