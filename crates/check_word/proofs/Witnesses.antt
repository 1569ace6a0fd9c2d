-- There is damage of each kind, and not all damage is seen: damage of each kind to a frame of the manual, and
-- four flips over 17 neighbouring line bits that leave a right check word.
-- Assumes nothing.
use mathlib.Core.Path.{◌≡◌, refl}
use mathlib.Core.Bool.{true, xor, and-eq-true_iff}
use mathlib.Core.List.{List, [], ◌∷◌}
use Prim.Native.Nat.{ℕ, zero, suc, ◌+◌, ◌≤◌, ◌<◌}
use native.Mathlib.Omega.{arith}
use lib.Dec.{ltb}
use lib.ListN.{length, get_or}
use lib.Pow.{are_bytes}
use borrow.Author.Tests.{ltb-true}
use Rattle.check_word.specs.CheckWord.{corrected, step, steps, add_byte, add_bytes, check_word}
use Rattle.check_word.specs.Frame.{Bytes, Right}
use Rattle.check_word.specs.Line.{bits, line_bits, differences, ones_at, differ_at, window, Shown, two, odd, burst, Damaged}

pub bytes_by : (xs : List ℕ) → are_bytes xs ≡ true → Bytes xs
bytes_by [] t i = omega arith
bytes_by (x ∷ xs) t zero = ltb-true x 256 ((and-eq-true_iff (ltb x 256) (are_bytes xs)).0 t).0
bytes_by (x ∷ xs) t (suc i) = bytes_by xs ((and-eq-true_iff (ltb x 256) (are_bytes xs)).0 t).1 i

-- section 2.8, first example
abbrev request : List ℕ
request = 0x14 ∷ 0x03 ∷ 0x00 ∷ 0x01 ∷ 0x00 ∷ 0x02 ∷ 0x97 ∷ 0x0e ∷ []

request_right : Right request
unfolding check_word add_bytes add_byte steps step corrected
request_right = record { enough = omega arith; ends = refl }

damaged : (g : List ℕ) → are_bytes g ≡ true → length g ≡ 8 → Shown (differ_at request g) → Damaged request g
damaged g b l s = record {
  sent_bytes = bytes_by request refl;
  at_least = omega arith;
  at_most = omega arith;
  right = request_right;
  received_bytes = bytes_by g b;
  as_long = l;
  shown = s;
}

-- ---- shown

-- the first line bit and the last
two_flips : Damaged request (0x15 ∷ 0x03 ∷ 0x00 ∷ 0x01 ∷ 0x00 ∷ 0x02 ∷ 0x97 ∷ 0x8e ∷ [])
unfolding xor bits line_bits differences ones_at
two_flips = damaged _ refl refl (two refl)

-- one in each of three bytes
three_flips : Damaged request (0x15 ∷ 0x13 ∷ 0x80 ∷ 0x01 ∷ 0x00 ∷ 0x02 ∷ 0x97 ∷ 0x0e ∷ [])
unfolding xor bits line_bits differences ones_at
three_flips = damaged _ refl refl (odd refl)

-- the last four line bits, inside sixteen neighbours that run past the frame's end
four_places : (i : ℕ) → i < 4 → (60 ≤ get_or (60 ∷ 61 ∷ 62 ∷ 63 ∷ []) i 0) × (get_or (60 ∷ 61 ∷ 62 ∷ 63 ∷ []) i 0 < 60 + window)
four_places zero h = omega arith
four_places (suc zero) h = omega arith
four_places (suc (suc zero)) h = omega arith
four_places (suc (suc (suc zero))) h = omega arith
four_places (suc (suc (suc (suc i)))) h = absurd (omega arith)

four_flips : Damaged request (0x14 ∷ 0x03 ∷ 0x00 ∷ 0x01 ∷ 0x00 ∷ 0x02 ∷ 0x97 ∷ 0xfe ∷ [])
unfolding xor bits line_bits differences ones_at
four_flips = damaged _ refl refl (burst (record { some = omega arith; first = 60; inside = four_places }))

-- ---- not shown

abbrev unseen : List ℕ
unseen = 0x17 ∷ 0x43 ∷ 0x01 ∷ 0x01 ∷ 0x00 ∷ 0x02 ∷ 0x97 ∷ 0x0e ∷ []

unseen_places : differ_at request unseen ≡ 0 ∷ 1 ∷ 14 ∷ 16 ∷ []
unfolding xor bits line_bits differences ones_at
unseen_places = refl

unseen_right : Right unseen
unfolding check_word add_bytes add_byte steps step corrected
unseen_right = record { enough = omega arith; ends = refl }
