-- Each run of bits, and each run of words that have no more than sixteen bits, can be packed.
-- Assumes nothing.
use mathlib.Core.Path.{◌≡◌}
use mathlib.Core.List.{List, [], ◌∷◌, ◌++◌}
use Prim.Native.Nat.{ℕ, zero, suc, ◌+◌, ◌*◌, ◌/◌, ◌%◌, ◌^◌, ◌≤◌, ◌<◌}
use native.Mathlib.Nat.{add-zero}
use native.Mathlib.Omega.{arith}
use Rattle.registers.specs.Memory.{word_bits, byte_bits, bit, from}
use Rattle.registers.specs.Packing.{BitsPacked, WordsPacked}
use Rattle.registers.specs.Pieces.{Shows}
use Rattle.registers.proofs.Shows.{shows_join}
use Rattle.registers.proofs.Packed.{packed_none, packed_join, packed_byte, words_packed_none, words_packed_next}

-- ---- bits

abbrev pub Bits : (ℕ → ℕ) → Type 0
Bits run = (n : ℕ) → run n < 2

pub lowest_bit : (b : ℕ) → b < 2 → bit b 0 ≡ b
unfolding bit
lowest_bit b small = omega arith

number_exists : (w : ℕ) (run : ℕ → ℕ) → Bits run → (number : ℕ) × Shows w run number
number_exists zero run bits = (0, record { small = omega arith; shown = λ p h. absurd (omega arith) })
number_exists (suc w) run bits =
    let (low, shows) = number_exists w run bits in
    let last : Shows 1 (from w run) (run w) =
    record { small = bits w; shown = λ p h. let e : p ≡ 0 = omega arith in rw (e, add-zero) (lowest_bit (run w) (bits w)) } in
    let e : w + 1 ≡ suc w = omega arith in
    (run w * 2 ^ w + low, rw e at (shows_join w 1 run low (run w) shows last))

-- whole bytes, and then a byte of one to eight bits
bytes_exist : (j w : ℕ) (run : ℕ → ℕ) → Bits run → 0 < w → w ≤ byte_bits
    → (bytes : List ℕ) × BitsPacked (j * byte_bits + w) run bytes
bytes_exist zero w run bits some few =
    let (number, shows) = number_exists w run bits in
    let e : 0 * 8 + w ≡ w = omega arith in
    (number ∷ [], rw e (packed_byte w run number some few shows))
bytes_exist (suc j) w run bits some few =
    let (number, shows) = number_exists 8 run bits in
    let one = packed_byte 8 run number (omega arith) (omega arith) shows in
    let (bytes, more) = bytes_exist j w (from 8 run) (λ n. bits (8 + n)) some few in
    let e : 8 + (j * 8 + w) ≡ suc j * 8 + w = omega arith in
    (number ∷ bytes, rw e at (packed_join 8 (j * 8 + w) run (number ∷ []) bytes (omega arith) one more))

pub bits_packable : (count : ℕ) (run : ℕ → ℕ) → Bits run → (bytes : List ℕ) × BitsPacked count run bytes
bits_packable zero run bits = ([], packed_none run)
bits_packable (suc n) run bits =
    let e : n / 8 * 8 + (n % 8 + 1) ≡ suc n = omega arith in
    rw e at (bytes_exist (n / 8) (n % 8 + 1) run bits (omega arith) (omega arith))

-- ---- words

pub words_packable : (count : ℕ) (run : ℕ → ℕ) → ((n : ℕ) → run n < 2 ^ word_bits)
    → (bytes : List ℕ) × WordsPacked count run bytes
words_packable zero run small = ([], words_packed_none run)
words_packable (suc n) run small =
    let (bytes, packed) = words_packable n run small in
    let e : n + 1 ≡ suc n = omega arith in
    (bytes ++ run n / 256 ∷ run n % 256 ∷ [], rw e at (words_packed_next n run bytes packed (small n)))
