-- A line says bytes where, with a blank set before it, it is these bytes in hex: so it says one frame, and has its length.
-- Assumes nothing.
use mathlib.Core.Path.{◌≡◌, refl, sym, ap, ap₂, ◌∙◌}
use mathlib.Core.List.{List, [], ◌∷◌, map}
use Prim.Native.Nat.{ℕ, suc, ◌+◌, ◌-◌, ◌*◌, ◌/◌, ◌%◌, ◌≤◌, ◌<◌}
use native.Mathlib.Decide.{dec_le}
use native.Mathlib.Omega.{arith}
use lib.ListN.{length, take, drop, get_or, length-drop, length-map, get_or-eq_default}
use Rattle.check_word.specs.Frame.{Bytes}
use Rattle.lines.specs.Hex.{blank, digit, upper, spaced, line_of, most_bytes, Says}
use Rattle.lines.specs.Places.{piece, StandsAt}
use Rattle.lines.proofs.Digits.{digits_apart, upper_digit, upper_blank}
use Rattle.lines.proofs.Spaced.{length_spaced}
use Rattle.lines.proofs.Pieces.{taken, assembled}
use Rattle.lines.proofs.Stands.{Filled}

-- ---- different bytes in hex are different

byte_apart : (x y : ℕ) → digit (x / 16) ≡ digit (y / 16) → digit (x % 16) ≡ digit (y % 16) → x ≡ y
byte_apart x y high low = omega (arith, digits_apart (x / 16) (y / 16) high, digits_apart (x % 16) (y % 16) low)

spaced_apart : (xs ys : List ℕ) → spaced xs ≡ spaced ys → xs ≡ ys
unfolding spaced
spaced_apart [] [] e = refl
spaced_apart [] (y ∷ ys) e = cc
spaced_apart (x ∷ xs) [] e = cc
spaced_apart (x ∷ xs) (y ∷ ys) e =
    ap₂ (λ (z : ℕ) (zs : List ℕ). z ∷ zs)
    (byte_apart x y (ap (λ (l : List ℕ). get_or l 1 0) e) (ap (λ (l : List ℕ). get_or l 2 0) e))
    (spaced_apart xs ys (ap (drop 3) e))

pub line_apart : (xs ys : List ℕ) → line_of xs ≡ line_of ys → xs ≡ ys
unfolding spaced
line_apart [] [] e = refl
line_apart [] (y ∷ ys) e = cc
line_apart (x ∷ xs) [] e = cc
line_apart (x ∷ xs) (y ∷ ys) e = spaced_apart (x ∷ xs) (y ∷ ys) (ap (λ (l : List ℕ). blank ∷ l) e)

-- ---- upper case leaves bytes in hex

upper_spaced : (xs : List ℕ) → Bytes xs → map upper (spaced xs) ≡ spaced xs
unfolding spaced
upper_spaced [] h = refl
upper_spaced (x ∷ xs) h =
    rw (
      upper_blank,
      upper_digit (x / 16) (omega (arith, h 0)),
      upper_digit (x % 16) (omega arith),
      upper_spaced xs (λ i. h (suc i)),
    )

upper_line : (xs : List ℕ) → Bytes xs → map upper (line_of xs) ≡ line_of xs
unfolding spaced
upper_line [] h = refl
upper_line (x ∷ xs) h = ap (drop 1) (upper_spaced (x ∷ xs) h)

-- ---- what a line says

pub length_says : (line bytes : List ℕ) → Says line bytes → length line ≡ 3 * length bytes - 1
length_says line bytes says =
    sym (length-map line upper) ∙ ap length says.in_hex ∙ length-drop 1 (spaced bytes)
    ∙ ap (λ (n : ℕ). n - 1) (length_spaced bytes)

pub over_long : (line bytes : List ℕ) → 899 < length line → Says line bytes → ⊥
over_long line bytes h says = omega (arith, length_says line bytes says, says.not_over)

pub says_spaced : (line bytes : List ℕ) → 0 < length line → Says line bytes → map upper (blank ∷ line) ≡ spaced bytes
unfolding spaced
says_spaced line [] some says = absurd (omega (arith, length_says line [] says))
says_spaced line (byte ∷ bytes) some says = ap₂ (λ (c : ℕ) (l : List ℕ). c ∷ l) upper_blank says.in_hex

-- the bytes that a line says stand at its places ..
pub says_stand : (line bytes : List ℕ) → 0 < length line → Says line bytes → (k : ℕ) → k < length bytes
    → StandsAt line k (get_or bytes k 0)
unfolding piece
says_stand line bytes some says k h =
    let shown = ap (λ (text : List ℕ). take 3 (drop (3 * k) text)) (says_spaced line bytes some says) in
    (says.bytes_are k, shown ∙ taken bytes k h)

-- .. and the line says the bytes that stand there
pub filled_says : (line : List ℕ) (n : ℕ) (before after : List ℕ) (f : Filled line n before after) → length line + 1 ≡ 3 * n
    → n ≤ most_bytes → Says line f.bytes
unfolding piece
filled_says line n before after f long h =
    let bytes = f.bytes in
    let many : length bytes ≡ n = f.so_many in
    record {
      in_hex =
          ap (drop 1)
          (assembled bytes (map upper (blank ∷ line)) (omega (arith, length-map line upper)) (λ k l. (f.each k (omega arith)).1));
      bytes_are =
          λ i.
          elim (dec_le (length bytes) i) [
            | yes l ↦ rw (get_or-eq_default bytes 0 l) (omega arith)
            | no l ↦ (f.each i (omega arith)).0
          ];
      not_over = omega arith;
    }

pub line_says : (bytes : List ℕ) → Bytes bytes → length bytes ≤ most_bytes → Says (line_of bytes) bytes
line_says bytes are h = record { in_hex = upper_line bytes are; bytes_are = are; not_over = h }

pub empty_says : (line : List ℕ) → length line ≡ 0 → Says line []
unfolding spaced
empty_says [] h = record { in_hex = refl; bytes_are = λ i. omega arith; not_over = omega arith }
empty_says (c ∷ line) h = absurd (omega arith)
