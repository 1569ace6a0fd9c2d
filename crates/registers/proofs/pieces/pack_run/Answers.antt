-- `pack_run` meets its contract: sixteen bits at once, and then one or two bytes for those left.
-- Assumes nothing.
use Rattle.std.proofs.Common.{arith, ◌≡◌, List, [], ◌∷◌, ℕ, suc, ◌+◌, ◌*◌, ◌/◌, ◌%◌, ◌^◌, ◌≤◌, ◌<◌, length, get_or}
use Rattle.std.proofs.Math.Nat.{div-add-mod', mod-eq_of_lt, lt_of_lt_of_le, pow-le-pow_right}
use Rattle.std.proofs.Math.ListN.{set}
use Rattle.std.proofs.Math.Seq.{sets}
use Rattle.registers.specs.Memory.{word_bits, image_bit, from}
use Rattle.registers.specs.Packing.{bytes_for_bits, BitsPacked, Filled}
use Rattle.registers.specs.Pieces.{Shows}
use Rattle.registers.proofs.Packed.{packed_byte, packed_two_bytes}
use Rattle.registers.proofs.Filled.{filled_more}
use Rattle.registers.proofs.pieces.pack_run.Goals as goal

module _ (before mid pair : List ℕ) (count bits : ℕ) (run : ℕ → ℕ)
    (whole : Filled (2 * (count / 16)) (BitsPacked (count / 16 * word_bits) run) before mid)
    (shows : Shows (count % 16) (from (count / 16 * word_bits) run) bits)
    (two : pair ≡ bits % 256 ∷ bits / 256 % 256 ∷ []) (room : bytes_for_bits count ≤ length before) where
  -- the buffer that is promised
  abbrev Packed : List ℕ → Type 0
  Packed after = Filled (bytes_for_bits count) (BitsPacked count run) before after

  left_packed : (ys : List ℕ) → BitsPacked (count % 16) (from (count / 16 * 16) run) ys
      → 2 * (count / 16) + length ys ≡ bytes_for_bits count → Packed (sets mid (2 * (count / 16)) ys)
  left_packed ys p size =
      rw (div-add-mod' count 16) at
      (filled_more (count / 16) (count % 16) (bytes_for_bits count) run before mid ys whole p size room)

  one_byte : 0 < count % 16 → count % 16 ≤ 8 → Packed (set mid (2 * (count / 16)) (get_or pair 0 0))
  one_byte some few =
      let small : bits < 256 = lt_of_lt_of_le shows.small (pow-le-pow_right (omega arith) few) in
      rw (two, mod-eq_of_lt small)
      (left_packed (bits ∷ []) (packed_byte (count % 16) (from (count / 16 * 16) run) bits some few shows) (omega arith))

  two_bytes : 8 < count % 16 → Packed (set (set mid (2 * (count / 16)) (get_or pair 0 0)) (2 * (count / 16) + 1) (get_or pair 1 0))
  two_bytes many =
      let few : count % 16 ≤ 16 = omega arith in
      let small : bits < 2 ^ 16 = lt_of_lt_of_le shows.small (pow-le-pow_right (omega arith) few) in
      let high : bits / 256 % 256 ≡ bits / 256 = omega arith in
      let last : 2 * (count / 16) + 1 ≡ suc (2 * (count / 16)) = omega arith in
      rw (two, high, last)
      (left_packed (bits % 256 ∷ bits / 256 ∷ [])
      (packed_two_bytes (count % 16) (from (count / 16 * 16) run) bits many (omega arith) shows) (omega arith))

pub returns-then-left-le-BYTE_BITS : goal.returns-then-left-le-BYTE_BITS
returns-then-left-le-BYTE_BITS c =
    one_byte c.args.buffer.now c.pack_whole.new.buffer c.to_le_bytes.result c.args.count c.image_bits.result
    (from c.args.first (image_bit c.args.image.now)) c.pack_whole.ensures c.image_bits.ensures c.to_le_bytes.ensures (omega arith)
    (omega arith) (omega arith)

pub returns : goal.returns
returns c =
    two_bytes c.args.buffer.now c.pack_whole.new.buffer c.to_le_bytes.result c.args.count c.image_bits.result
    (from c.args.first (image_bit c.args.image.now)) c.pack_whole.ensures c.image_bits.ensures c.to_le_bytes.ensures (omega arith)
    (omega arith)
