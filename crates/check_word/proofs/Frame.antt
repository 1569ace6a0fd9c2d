-- Frames: a body with its check word behind it is right, and of bytes if the body is; a right frame leaves the word 0.
-- Assumes nothing.
use mathlib.Core.Path.{◌≡◌, sym, ap, ap₂, subst, ◌∙◌}
use mathlib.Core.Bool.{true}
use mathlib.Core.List.{List, [], ◌∷◌, ◌++◌}
use Prim.Native.Nat.{ℕ, zero, suc, ◌+◌, ◌-◌, ◌/◌, ◌%◌, ◌^◌, ◌<◌}
use native.Mathlib.Omega.{arith}
use lib.Bits.{bit_xor, xor_self, xor_comm, xor_lt}
use lib.Dec.{lit<}
use lib.ListN.{length, take, drop, length-append, take-append-drop}
use lib.Seq.{take_at, drop_at, length-take-le}
use Rattle.check_word.specs.CheckWord.{start, corrected, step, steps, check_word}
use Rattle.promise.specs.Promise.{Attempt}
use Rattle.check_word.specs.Frame.{Bytes, low_first, framed, Right, Put}
use Rattle.check_word.specs.Line.{line_bits, differences, Damaged}
use Rattle.check_word.proofs.Xor.{xor_twice}
use Rattle.check_word.proofs.Step.{steps_xor, steps_split, steps_lt}
use Rattle.check_word.proofs.Fed.{fed, fed_append, add_bytes_fed}
use Rattle.check_word.proofs.Line.{fed_bits, fed_line, fed_differences, length_line}

-- ---- right frames

pub framed_right : (body : List ℕ) → Right (framed body)
framed_right body =
    let word = low_first (check_word body) in
    let n : length body ≡ length (framed body) - 2 = omega (arith, length-append body word) in
    record {
      enough = omega (arith, length-append body word);
      ends = drop_at body word (length (framed body) - 2) n
          ∙ sym (ap (λ (b : List ℕ). low_first (check_word b)) (take_at body word (length (framed body) - 2) n));
    }

pub put_right : (n : ℕ) (before after : List ℕ) → Put n before true after → Right (take (n + 2) after)
unfolding Attempt
put_right n before after put =
    let body = take n before in
    let size : length (framed body) ≡ n + 2 =
    length-append body (low_first (check_word body)) ∙ ap (λ (k : ℕ). k + 2) (length-take-le n before (omega arith)) in
    let front : take (n + 2) after ≡ framed body =
    ap (take (n + 2)) put.1 ∙ take_at (framed body) (drop (n + 2) before) (n + 2) size in
    subst Right (sym front) (framed_right body)

-- ---- bytes

bytes_append : (xs ys : List ℕ) → Bytes xs → Bytes ys → Bytes (xs ++ ys)
bytes_append [] ys bx by i = by i
bytes_append (x ∷ xs) ys bx by zero = bx 0
bytes_append (x ∷ xs) ys bx by (suc i) = bytes_append xs ys (λ j. bx (suc j)) by i

fed_lt : (bs : List ℕ) (w : ℕ) → Bytes bs → w < 2 ^ 16 → fed 8 w bs < 2 ^ 16
unfolding fed
fed_lt [] w b h = h
fed_lt (x ∷ xs) w b h = fed_lt xs (steps 8 (bit_xor w x)) (λ i. b (suc i)) (steps_lt 8 (bit_xor w x) (xor_lt 16 w x h (omega (arith, b 0))))

pub check_word_lt : (bs : List ℕ) → Bytes bs → check_word bs < 2 ^ 16
unfolding check_word
check_word_lt bs b = rw add_bytes_fed (fed_lt bs start b (lit< tt))

low_first_bytes : (w : ℕ) → w < 2 ^ 16 → Bytes (low_first w)
low_first_bytes w h zero = omega arith
low_first_bytes w h (suc zero) = omega arith
low_first_bytes w h (suc (suc i)) = omega arith

pub framed_bytes : (body : List ℕ) → Bytes body → Bytes (framed body)
framed_bytes body b =
    bytes_append body (low_first (check_word body)) b (low_first_bytes (check_word body) (check_word_lt body b))

-- ---- the word that they leave

-- the low byte cancels itself, and the high byte moves down
add_low : (w : ℕ) → steps 8 (bit_xor w (w % 256)) ≡ w / 256
add_low w =
    steps_xor 8 w (w % 256)
    ∙ ap (λ (x : ℕ). bit_xor x (steps 8 (w % 256))) (steps_split 8 w ∙ xor_comm (steps 8 (w % 256)) (w / 256))
    ∙ xor_twice (w / 256) (steps 8 (w % 256))

-- then the high byte cancels itself too
fed_itself : (w : ℕ) → fed 8 w (low_first w) ≡ 0
unfolding fed steps step corrected
fed_itself w = ap (λ (x : ℕ). steps 8 (bit_xor x (w / 256))) (add_low w) ∙ ap (steps 8) (xor_self (w / 256))

right_zero : (f : List ℕ) → Right f → fed 8 start f ≡ 0
unfolding check_word
right_zero f right =
    let n = length f - 2 in
    let word = check_word (take n f) in
    ap (fed 8 start) (sym (take-append-drop n f)) ∙ fed_append 8 start (take n f) (drop n f)
    ∙ ap₂ (fed 8) (sym (add_bytes_fed start (take n f))) right.ends ∙ fed_itself word

-- so where a damaged frame is right too, the differences alone leave 0
pub differences_zero : (f g : List ℕ) → Damaged f g → Right g → fed_bits 0 (differences (line_bits f) (line_bits g)) ≡ 0
differences_zero f g d right =
    fed_differences (line_bits f) (line_bits g) start start (omega (arith, length_line f, length_line g, d.as_long))
    ∙ ap₂ bit_xor (sym (fed_line start f d.sent_bytes) ∙ right_zero f d.right) (sym (fed_line start g d.received_bytes) ∙ right_zero g right)
