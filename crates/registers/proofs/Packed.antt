-- The bytes of a run of bits, and of a run of words, put together part by part.
-- Assumes nothing.
use mathlib.Core.Path.{◌≡◌, refl, sym, ap, ap₂, ◌∙◌, subst}
use mathlib.Core.Logic.{inl, inr}
use mathlib.Core.List.{List, [], ◌∷◌, ◌++◌}
use Prim.Native.Nat.{ℕ, ◌+◌, ◌-◌, ◌*◌, ◌/◌, ◌%◌, ◌^◌, ◌≤◌, ◌<◌}
use native.Mathlib.Nat.{lt_of_lt_of_le, pow-le-pow_right, zero-add, div-add-mod'}
use native.Mathlib.Omega.{arith}
use lib.ListN.{length, get_or, get_or-append, length-append}
use lib.Seq.{get_or-append-add, get_or_at}
use Rattle.registers.specs.Memory.{bit, from}
use Rattle.registers.specs.Packing.{packed_bit, packed_word, BitsPacked, WordsPacked}
use Rattle.registers.specs.Pieces.{Shows}
use Rattle.registers.proofs.Places.{lt_or_le}
use Rattle.registers.proofs.Bit.{bit_past}
use Rattle.registers.proofs.Numbers.{bit_at-number, bit_at-past, bit_at-front, bit_at-behind, numbers_one, numbers_append}
use Rattle.registers.proofs.Shows.{shows_low, shows_high}

-- ---- bits

pub packed_none : (run : ℕ → ℕ) → BitsPacked 0 run []
packed_none run =
    record {
      size = refl;
      bytes_fit = λ i. omega arith;
      shown = λ n h. absurd (omega arith);
      spare = λ n h. bit_at-past 8 (omega arith) [] n (omega arith);
    }

-- another run with the same bits
pub bits_packed_run : {count : ℕ} {f g : ℕ → ℕ} {bytes : List ℕ} → BitsPacked count f bytes → ((n : ℕ) → n < count → f n ≡ g n)
    → BitsPacked count g bytes
bits_packed_run p same =
    record { size = p.size; bytes_fit = p.bytes_fit; shown = λ n h. p.shown n h ∙ same n h; spare = p.spare }

packed_behind : (a : ℕ) (xs ys : List ℕ) (n : ℕ) → length xs * 8 ≡ a → a ≤ n → packed_bit (xs ++ ys) n ≡ packed_bit ys (n - a)
packed_behind a xs ys n whole h =
    ap (packed_bit (xs ++ ys)) (omega arith) ∙ bit_at-behind 8 (omega arith) xs ys (n - a)

-- whole bytes of a run, and then the bytes of what follows
pub packed_join : (a b : ℕ) (run : ℕ → ℕ) (xs ys : List ℕ) → length xs * 8 ≡ a → BitsPacked a run xs → BitsPacked b (from a run) ys
    → BitsPacked (a + b) run (xs ++ ys)
packed_join a b run xs ys whole p q =
    record {
      size = length-append xs ys ∙ omega arith;
      bytes_fit = numbers_append 8 xs ys p.bytes_fit q.bytes_fit;
      shown = λ n h.
          elim (lt_or_le n a) [
            | inl l ↦ bit_at-front 8 (omega arith) xs ys n (omega arith) ∙ p.shown n l
            | inr l ↦ packed_behind a xs ys n whole l ∙ q.shown (n - a) (omega arith) ∙ ap run (omega arith)
          ];
      spare = λ n h. packed_behind a xs ys n whole (omega arith) ∙ q.spare (n - a) (omega arith);
    }

one_byte : (x n : ℕ) → n < 8 → packed_bit (x ∷ []) n ≡ bit x n
one_byte x n h = ap (packed_bit (x ∷ [])) (sym (zero-add n)) ∙ bit_at-number 8 (x ∷ []) 0 n h

-- a number that shows up to eight bits of a run is the byte of them
pub packed_byte : (w : ℕ) (run : ℕ → ℕ) (x : ℕ) → 0 < w → w ≤ 8 → Shows w run x → BitsPacked w run (x ∷ [])
packed_byte w run x pos h s =
    record {
      size = omega arith;
      bytes_fit = numbers_one 8 x (lt_of_lt_of_le s.small (pow-le-pow_right (omega arith) h));
      shown = λ n l. one_byte x n (omega arith) ∙ s.shown n l;
      spare = λ n l.
          elim (lt_or_le n 8) [
            | inl m ↦ one_byte x n m ∙ bit_past w x n s.small l
            | inr m ↦ bit_at-past 8 (omega arith) (x ∷ []) n m
          ];
    }

-- .. and of nine to sixteen, its two bytes, low byte first
pub packed_two_bytes : (w : ℕ) (run : ℕ → ℕ) (x : ℕ) → 8 < w → w ≤ 16 → Shows w run x → BitsPacked w run (x % 256 ∷ x / 256 ∷ [])
packed_two_bytes w run x above h s =
    let e : 8 + (w - 8) ≡ w = omega arith in
    rw e at
    (packed_join 8 (w - 8) run (x % 256 ∷ []) (x / 256 ∷ []) (omega arith)
    (packed_byte 8 run (x % 256) (omega arith) (omega arith) (shows_low w 8 run x (omega arith) s))
    (packed_byte (w - 8) (from 8 run) (x / 256) (omega arith) (omega arith) (shows_high w 8 run x (omega arith) s)))

-- ---- words

pub words_packed_none : (run : ℕ → ℕ) → WordsPacked 0 run []
words_packed_none run = record { size = refl; bytes_fit = λ i. omega arith; shown = λ n h. absurd (omega arith) }

pub words_packed_run : {count : ℕ} {f g : ℕ → ℕ} {bytes : List ℕ} → WordsPacked count f bytes → ((n : ℕ) → n < count → f n ≡ g n)
    → WordsPacked count g bytes
words_packed_run p same =
    record { size = p.size; bytes_fit = p.bytes_fit; shown = λ n h. p.shown n h ∙ same n h }

-- two bytes behind those of i words show one word more, and leave those before
word_behind : (i hi lo : ℕ) (bytes : List ℕ) → length bytes ≡ 2 * i → packed_word (bytes ++ hi ∷ lo ∷ []) i ≡ hi * 256 + lo
word_behind i hi lo bytes size =
    ap₂ (λ (x y : ℕ). x * 256 + y) (get_or_at bytes hi (lo ∷ []) 0 (2 * i) size)
    (ap (λ (k : ℕ). get_or (bytes ++ hi ∷ lo ∷ []) (k + 1) 0) (sym size) ∙ get_or-append-add bytes (hi ∷ lo ∷ []) 1 0)

words_before : (i n hi lo : ℕ) (bytes : List ℕ) → length bytes ≡ 2 * i → n < i
    → packed_word (bytes ++ hi ∷ lo ∷ []) n ≡ packed_word bytes n
words_before i n hi lo bytes size h =
    ap₂ (λ (x y : ℕ). x * 256 + y) (get_or-append bytes (hi ∷ lo ∷ []) 0 (2 * n) (omega arith))
    (get_or-append bytes (hi ∷ lo ∷ []) 0 (2 * n + 1) (omega arith))

pub words_packed_next : (i : ℕ) (run : ℕ → ℕ) (bytes : List ℕ) → WordsPacked i run bytes → run i < 2 ^ 16
    → WordsPacked (i + 1) run (bytes ++ run i / 256 ∷ run i % 256 ∷ [])
words_packed_next i run bytes p small =
    let hi = run i / 256 in
    let lo = run i % 256 in
    record {
      size = length-append bytes (hi ∷ lo ∷ []) ∙ omega arith;
      bytes_fit =
          numbers_append 8 bytes (hi ∷ lo ∷ []) p.bytes_fit
          (numbers_append 8 (hi ∷ []) (lo ∷ []) (numbers_one 8 hi (omega arith)) (numbers_one 8 lo (omega arith)));
      shown = λ n h.
          elim (lt_or_le n i) [
            | inl l ↦ words_before i n hi lo bytes p.size l ∙ p.shown n l
            | inr l ↦ let e : i ≡ n = omega arith in
                subst (λ (k : ℕ). packed_word (bytes ++ hi ∷ lo ∷ []) k ≡ run k) e (word_behind i hi lo bytes p.size ∙ div-add-mod' (run i) 256)
          ];
    }
