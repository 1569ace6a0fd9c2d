-- What a few 1 bits can do to the word: n bits clear no more than the n low bits of it. So two 1 bits never leave 0, since
-- between them the word never falls below 2, nor do 1 bits inside 16 neighbours, since the first of them sets the top bit.
-- Assumes nothing.
use mathlib.Core.Path.{◌≡◌, refl, sym, ap, subst, ◌∙◌}
use mathlib.Core.Bool.{Bool, true, false, ◌&&◌, and-eq-true_iff}
use mathlib.Core.List.{List, [], ◌∷◌}
use Prim.Native.Nat.{ℕ, zero, suc, ◌+◌, ◌*◌, ◌^◌, ◌≤◌, ◌<◌}
use native.Mathlib.Nat.{pow-suc}
use native.Mathlib.Omega.{arith}
use lib.Bits.{bit_xor, xor_zero_r, xor_lt}
use lib.Dec.{leb, lit<}
use lib.ListN.{length, get_or}
use lib.Pow.{pow_mono, pow_pos}
use borrow.Author.Tests.{leb-true}
use Rattle.check_word.specs.CheckWord.{polynomial, corrected, step, steps}
use Rattle.check_word.specs.Line.{ones_at, ExactlyTwo, InsideWindow}
use Rattle.check_word.proofs.Xor.{digit, digit_lt, xor_twice}
use Rattle.check_word.proofs.Step.{step_lt, step_clear}
use Rattle.check_word.proofs.Fed.{fed}
use Rattle.check_word.proofs.Line.{fed_bits}

-- every place is below m
abbrev Below : ℕ → List ℕ → Type 0
Below m ks = (i : ℕ) → i < length ks → get_or ks i 0 < m

-- ---- n bits clear no more than the n low bits

mixed_lt : (w : ℕ) (x : Bool) → w < 2 ^ 16 → bit_xor w (digit x) < 2 ^ 16
mixed_lt w x h = xor_lt 16 w (digit x) h (omega (arith, digit_lt x))

-- one bit fed: where what is left fits n bits, what was there fits one bit more
bit_fed_lt : (n w : ℕ) (x : Bool) → n ≤ 15 → w < 2 ^ 16 → step (bit_xor w (digit x)) < 2 ^ n → w < 2 ^ suc n
bit_fed_lt n w x l h s =
    let mixed = bit_xor w (digit x) in
    let shifted : step mixed * 2 ≡ mixed = step_clear mixed (mixed_lt w x h) (omega (arith, pow_mono l)) in
    let fits : mixed < 2 ^ suc n = omega (arith, pow-suc 2 n) in
    let one : digit x < 2 ^ suc n = omega (arith, digit_lt x, pow-suc 2 n, pow_pos n) in
    subst (λ (v : ℕ). v < 2 ^ suc n) (xor_twice w (digit x)) (xor_lt (suc n) mixed (digit x) fits one)

below_rest : (x : Bool) (xs : List Bool) (k m : ℕ) → Below m (ones_at k (x ∷ xs)) → Below m (ones_at (suc k) xs)
unfolding ones_at
below_rest true xs k m b i h = b (suc i) (omega arith)
below_rest false xs k m b i h = b i h

cleared_lt : (xs : List Bool) (k n w : ℕ) → n ≤ 16 → Below (k + n) (ones_at k xs) → w < 2 ^ 16 → fed_bits w xs ≡ 0 → w < 2 ^ n
unfolding fed steps ones_at
cleared_lt [] k n w l b h e = omega (arith, pow_pos n)
cleared_lt (true ∷ xs) k zero w l b h e = absurd (omega (arith, b 0 (omega arith)))
cleared_lt (false ∷ xs) k zero w l b h e =
    let kept = mixed_lt w false h in
    let left = cleared_lt xs (suc k) 0 (step (bit_xor w 0)) l (λ i g. omega (arith, b i g)) (step_lt (bit_xor w 0) kept) e in
    omega (arith, step_clear (bit_xor w 0) kept (omega arith), xor_zero_r w)
cleared_lt (x ∷ xs) k (suc n) w l b h e =
    let mixed = bit_xor w (digit x) in
    let rest : Below (suc k + n) (ones_at (suc k) xs) = λ i g. omega (arith, below_rest x xs k (k + suc n) b i g) in
    bit_fed_lt n w x (omega arith) h (cleared_lt xs (suc k) n (step mixed) (omega arith) rest (step_lt mixed (mixed_lt w x h)) e)

-- ---- two 1 bits: after the first the word is the polynomial, and the second would have to find it below 2

-- for n steps the word does not fall below 2
above_one : ℕ → ℕ → Bool
above_one zero w = true
above_one (suc n) w = leb 2 w && above_one n (step w)

above_now : (n w : ℕ) → above_one (suc n) w ≡ true → 2 ≤ w
unfolding above_one
above_now n w s = leb-true 2 w ((and-eq-true_iff (leb 2 w) (above_one n (step w))).0 s).0

above_later : (n w : ℕ) → above_one (suc n) w ≡ true → above_one n (step w) ≡ true
unfolding above_one
above_later n w s = ((and-eq-true_iff (leb 2 w) (above_one n (step w))).0 s).1

only_one : (k : ℕ) (ks : List ℕ) → length (k ∷ ks) ≡ 1 → Below (k + 1) (k ∷ ks)
only_one k ks o zero h = omega arith
only_one k ks o (suc i) h = absurd (omega arith)

-- a single 1 bit, fed while the word stays above 1, never leaves 0
second_too_high : (n : ℕ) (xs : List Bool) (k w : ℕ) → length (ones_at k xs) ≡ 1 → length xs ≤ n → above_one n w ≡ true → w < 2 ^ 16 → fed_bits w xs ≡ 0 → ⊥
unfolding fed steps ones_at
second_too_high n [] k w o l s h e = omega arith
second_too_high zero (x ∷ xs) k w o l s h e = omega arith
second_too_high (suc n) (false ∷ xs) k w o l s h e =
    second_too_high n xs (suc k) (step w) o (omega arith) (above_later n w s) (step_lt w h)
    (ap (λ (v : ℕ). fed_bits (step v) xs) (sym (xor_zero_r w)) ∙ e)
second_too_high (suc n) (true ∷ xs) k w o l s h e =
    omega (arith, above_now n w s, cleared_lt (true ∷ xs) k 1 w (omega arith) (only_one k (ones_at (suc k) xs) o) h e)

-- 256 bytes have 2,048 line bits, so at most 2,047 follow the first; antt computes that many steps
pub two_never_zero : (xs : List Bool) (k : ℕ) → length xs ≤ 2048 → ExactlyTwo (ones_at k xs) → fed_bits 0 xs ≡ 0 → ⊥
unfolding fed steps ones_at step corrected above_one
two_never_zero [] k l o e = omega arith
two_never_zero (false ∷ xs) k l o e = two_never_zero xs (suc k) (omega arith) o e
two_never_zero (true ∷ xs) k l o e = second_too_high 2047 xs (suc k) polynomial (omega arith) (omega arith) refl (lit< tt) e

-- ---- inside 16 neighbours: after the first 1 bit at most 15 can follow, and the polynomial has 16 bits

pub burst_never_zero : (xs : List Bool) (k : ℕ) → InsideWindow (ones_at k xs) → fed_bits 0 xs ≡ 0 → ⊥
unfolding fed steps ones_at step corrected
burst_never_zero [] k near e = omega arith
burst_never_zero (false ∷ xs) k near e = burst_never_zero xs (suc k) near e
burst_never_zero (true ∷ xs) k near e =
    let begun : near.first ≤ k = (near.inside 0 (omega arith)).0 in
    omega (arith, cleared_lt xs (suc k) 15 polynomial (omega arith) (λ i g. omega (arith, (near.inside (suc i) (omega arith)).1)) (lit< tt) e)
