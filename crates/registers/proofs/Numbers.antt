-- Lists of numbers of `width` bits each, bit by bit: parts, a store, and that length and bits determine the list.
-- Assumes nothing.
use mathlib.Core.Path.{◌≡◌, sym, ap, ap₂, ◌∙◌}
use mathlib.Core.Logic.{◌≢◌}
use mathlib.Core.List.{List, [], ◌∷◌, ◌++◌}
use Prim.Native.Nat.{ℕ, zero, suc, ◌+◌, ◌*◌, ◌/◌, ◌%◌, ◌^◌, ◌≤◌, ◌<◌}
use native.Mathlib.Nat.{mul-add-div_right, mul-add-mod_self_right, le-div_iff_mul-le, div-lt_iff_lt-mul}
use native.Mathlib.Omega.{arith}
use native.Mathlib.Decide.{ℕ_discrete}
use lib.Arith.{digits_div, digits_mod}
use lib.Pow.{pow_pos}
use lib.ListN.{length, get_or, set, take, get_or-append, get_or-eq_default}
use lib.Seq.{ext_get_or, get_or-append-add, get_or-set_same, get_or-set_other}
use Rattle.registers.specs.Memory.{bit, bit_among, FitIn}
use Rattle.registers.proofs.Bit.{bit_past, bit_ext}

abbrev pub bit_at : ℕ → List ℕ → ℕ → ℕ
bit_at w xs = bit_among w (λ i. get_or xs i 0)

module _ (w : ℕ) where
  -- bit p of number q
  pub bit_at-number : (xs : List ℕ) (q p : ℕ) → p < w → bit_at w xs (q * w + p) ≡ bit (get_or xs q 0) p
  unfolding bit_among
  bit_at-number xs q p h = ap₂ (λ (i j : ℕ). bit (get_or xs i 0) j) (digits_div q h) (digits_mod q h)

  pub numbers_ext : (xs ys : List ℕ) → FitIn w xs → FitIn w ys → length xs ≡ length ys
      → ((k : ℕ) → bit_at w xs k ≡ bit_at w ys k) → xs ≡ ys
  numbers_ext xs ys fx fy long same =
      ext_get_or 0 xs ys long
      (λ q h. bit_ext w (get_or xs q 0) (get_or ys q 0) (fx q) (fy q)
      (λ p h. sym (bit_at-number xs q p h) ∙ same (q * w + p) ∙ bit_at-number ys q p h))

  -- ---- a store

  pub bit_at-set_same : (xs : List ℕ) (q v k : ℕ) → q < length xs → k / w ≡ q → bit_at w (set xs q v) k ≡ bit v (k % w)
  unfolding bit_among
  bit_at-set_same xs q v k h e =
      ap (λ (i : ℕ). bit (get_or (set xs q v) i 0) (k % w)) e ∙ ap (λ (x : ℕ). bit x (k % w)) (get_or-set_same xs q v 0 h)

  bit_at-set_other : (xs : List ℕ) (q v k : ℕ) → k / w ≢ q → bit_at w (set xs q v) k ≡ bit_at w xs k
  unfolding bit_among
  bit_at-set_other xs q v k h = ap (λ (x : ℕ). bit x (k % w)) (get_or-set_other xs q (k / w) v 0 h)

  -- a store keeps bit k, if it does so within its own number
  pub bit_at-set_kept : (xs : List ℕ) (q v k : ℕ) → q < length xs
      → (k / w ≡ q → bit v (k % w) ≡ bit (get_or xs q 0) (k % w)) → bit_at w (set xs q v) k ≡ bit_at w xs k
  unfolding bit_among
  bit_at-set_kept xs q v k inside same =
      elim (ℕ_discrete (k / w) q) [
        | yes e ↦ bit_at-set_same xs q v k inside e ∙ same e ∙ ap (λ (i : ℕ). bit (get_or xs i 0) (k % w)) (sym e)
        | no other ↦ bit_at-set_other xs q v k other
      ]

  module _ (pos : 0 < w) where
    -- past the last number
    pub bit_at-past : (xs : List ℕ) (k : ℕ) → length xs * w ≤ k → bit_at w xs k ≡ 0
    unfolding bit_among
    bit_at-past xs k h =
        ap (λ (x : ℕ). bit x (k % w)) (get_or-eq_default xs 0 ((le-div_iff_mul-le pos).1 h)) ∙ bit_past 0 0 (k % w) (omega arith) (omega arith)

    -- ---- two lists, one behind the other

    pub bit_at-front : (xs ys : List ℕ) (k : ℕ) → k < length xs * w → bit_at w (xs ++ ys) k ≡ bit_at w xs k
    unfolding bit_among
    bit_at-front xs ys k h = ap (λ (x : ℕ). bit x (k % w)) (get_or-append xs ys 0 (k / w) ((div-lt_iff_lt-mul pos).1 h))

    pub bit_at-behind : (xs ys : List ℕ) (n : ℕ) → bit_at w (xs ++ ys) (length xs * w + n) ≡ bit_at w ys n
    unfolding bit_among
    bit_at-behind xs ys n =
        ap₂ (λ (i p : ℕ). bit (get_or (xs ++ ys) i 0) p) (mul-add-div_right pos (length xs) n) (mul-add-mod_self_right (length xs) w n)
        ∙ ap (λ (x : ℕ). bit x (n % w)) (get_or-append-add xs ys (n / w) 0)

-- ---- numbers of a list, each of `width` bits, keep to it

pub numbers_set : (w : ℕ) (xs : List ℕ) (q v : ℕ) → FitIn w xs → v < 2 ^ w → FitIn w (set xs q v)
numbers_set w [] q v fit small i = fit i
numbers_set w (x ∷ xs) zero v fit small zero = small
numbers_set w (x ∷ xs) zero v fit small (suc i) = fit (suc i)
numbers_set w (x ∷ xs) (suc q) v fit small zero = fit zero
numbers_set w (x ∷ xs) (suc q) v fit small (suc i) = numbers_set w xs q v (λ j. fit (suc j)) small i

pub numbers_one : (w x : ℕ) → x < 2 ^ w → FitIn w (x ∷ [])
numbers_one w x small zero = small
numbers_one w x small (suc i) = pow_pos w

pub numbers_append : (w : ℕ) (xs ys : List ℕ) → FitIn w xs → FitIn w ys → FitIn w (xs ++ ys)
numbers_append w [] ys fx fy i = fy i
numbers_append w (x ∷ xs) ys fx fy zero = fx zero
numbers_append w (x ∷ xs) ys fx fy (suc i) = numbers_append w xs ys (λ j. fx (suc j)) fy i

pub numbers_take : (w n : ℕ) (xs : List ℕ) → FitIn w xs → FitIn w (take n xs)
numbers_take w zero xs fit i = pow_pos w
numbers_take w (suc n) [] fit i = fit i
numbers_take w (suc n) (x ∷ xs) fit zero = fit zero
numbers_take w (suc n) (x ∷ xs) fit (suc i) = numbers_take w n xs (λ j. fit (suc j)) i
