-- Numbers that show the first bits of a run: parts of them, and several joined.
-- Assumes nothing.
use mathlib.Core.Path.{◌≡◌, sym, ap, ◌∙◌, subst}
use mathlib.Core.Logic.{inl, inr}
use mathlib.Core.List.{List}
use Prim.Native.Nat.{ℕ, ◌+◌, ◌-◌, ◌*◌, ◌/◌, ◌%◌, ◌^◌, ◌≤◌, ◌<◌}
use native.Mathlib.Nat.{mod-lt, add_comm, add_assoc}
use native.Mathlib.Omega.{arith}
use lib.Arith.{digits_lt}
use lib.Pow.{pow_pos, pow-add, shr_lt}
use lib.ListN.{get_or}
use Rattle.registers.specs.Memory.{bit, word_bits, byte_bits, FitIn, from}
use Rattle.registers.specs.Packing.{packed_bit}
use Rattle.registers.specs.Pieces.{Shows}
use Rattle.registers.proofs.Places.{lt_or_le}
use Rattle.registers.proofs.Bit.{bit_low, bit_shifted, bit_under, bit_over}
use Rattle.registers.proofs.Numbers.{bit_at, bit_at-number}

-- another run with the same first bits
pub shows_run : {w : ℕ} {f g : ℕ → ℕ} {n : ℕ} → Shows w f n → ((p : ℕ) → p < w → f p ≡ g p) → Shows w g n
shows_run s same = record { small = s.small; shown = λ p h. s.shown p h ∙ same p h }

-- the low k bits, and those from bit k on
pub shows_low : (w k : ℕ) (run : ℕ → ℕ) (n : ℕ) → k ≤ w → Shows w run n → Shows k run (n % 2 ^ k)
shows_low w k run n h s =
    record { small = mod-lt n (pow_pos k); shown = λ p below. bit_low k n p below ∙ s.shown p (omega arith) }

pub shows_high : (w k : ℕ) (run : ℕ → ℕ) (n : ℕ) → k ≤ w → Shows w run n → Shows (w - k) (from k run) (n / 2 ^ k)
shows_high w k run n h s =
    let e : w ≡ w - k + k = omega arith in
    record {
      small = shr_lt (w - k) k (subst (λ (m : ℕ). n < 2 ^ m) e s.small);
      shown = λ p below. bit_shifted k n p ∙ s.shown (k + p) (omega arith);
    }

-- `width` of the bits, from `place` on
pub shows_part : (w place width first : ℕ) (memory : ℕ → ℕ) (n : ℕ) → place + width ≤ w → Shows w (from first memory) n
    → Shows width (from (first + place) memory) (n / 2 ^ place % 2 ^ width)
shows_part w place width first memory n h s =
    shows_run
    (shows_low (w - place) width (from place (from first memory)) (n / 2 ^ place) (omega arith)
    (shows_high w place (from first memory) n (omega arith) s))
    (λ p below. ap memory (sym (add_assoc first place p)))

-- the next b bits above the first a
pub shows_join : (a b : ℕ) (run : ℕ → ℕ) (lo hi : ℕ) → Shows a run lo → Shows b (from a run) hi → Shows (a + b) run (hi * 2 ^ a + lo)
shows_join a b run lo hi s t =
    record {
      small = rw (add_comm a b, pow-add) (digits_lt t.small s.small);
      shown = λ p below.
          elim (lt_or_le p a) [
            | inl h ↦ bit_under a hi lo p s.small h ∙ s.shown p h
            | inr h ↦ let e : a + (p - a) ≡ p = omega arith in
                ap (bit (hi * 2 ^ a + lo)) (sym e) ∙ bit_over a hi lo (p - a) s.small ∙ t.shown (p - a) (omega arith) ∙ ap run e
          ];
    }

module _ (w : ℕ) (xs : List ℕ) where
  -- a number of a list shows the list's bits from its own on
  pub shows_number : (q : ℕ) → get_or xs q 0 < 2 ^ w → Shows w (from (q * w) (bit_at w xs)) (get_or xs q 0)
  shows_number q small = record { small = small; shown = λ p h. sym (bit_at-number w xs q p h) }

  -- .. and one more number of it, the bits behind those of the m before
  pub shows_next : (q m v : ℕ) → get_or xs (q + m) 0 < 2 ^ w → Shows (m * w) (from (q * w) (bit_at w xs)) v
      → Shows (m * w + w) (from (q * w) (bit_at w xs)) (get_or xs (q + m) 0 * 2 ^ (m * w) + v)
  shows_next q m v small s =
      shows_join (m * w) w (from (q * w) (bit_at w xs)) v (get_or xs (q + m) 0) s
      (shows_run (shows_number (q + m) small) (λ p h. ap (bit_at w xs) (omega arith)))

-- three packed bytes show 24 of the bits, and sixteen of them are taken
pub three_bytes : (bytes : List ℕ) (first low middle high bits : ℕ) → FitIn byte_bits bytes → low ≡ get_or bytes (first / 8) 0
    → middle ≡ get_or bytes (first / 8 + 1) 0 → high ≡ get_or bytes (first / 8 + 2) 0
    → bits ≡ high * 65536 + (middle * 256 + low) → Shows word_bits (from first (packed_bit bytes)) (bits / 2 ^ (first % 8) % 65536)
three_bytes bytes first low middle high bits fit el em eh e =
    let at = first / 8 in
    let place = first % 8 in
    let two = get_or bytes (at + 1) 0 * 256 + get_or bytes at 0 in
    rw (e, el, em, eh)
    (shows_run
    (shows_part 24 place word_bits (at * 8) (packed_bit bytes) (get_or bytes (at + 2) 0 * 65536 + two) (omega arith)
    (shows_next 8 bytes at 2 two (fit (at + 2))
    (shows_next 8 bytes at 1 (get_or bytes at 0) (fit (at + 1)) (shows_number 8 bytes at (fit at)))))
    (λ p h. ap (packed_bit bytes) (omega arith)))

-- two packed bytes show sixteen of the bits, from the first of them on
pub two_bytes : (bytes : List ℕ) (first bits : ℕ) → FitIn byte_bits bytes → first % 8 ≡ 0
    → bits ≡ get_or bytes (first / 8 + 1) 0 * 256 + get_or bytes (first / 8) 0 → Shows word_bits (from first (packed_bit bytes)) bits
two_bytes bytes first bits fit h e =
    let at = first / 8 in
    rw e
    (shows_run (shows_next 8 bytes at 1 (get_or bytes at 0) (fit (at + 1)) (shows_number 8 bytes at (fit at)))
    (λ p below. ap (packed_bit bytes) (omega arith)))
