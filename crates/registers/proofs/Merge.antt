-- A word with `width` bits from `place` on replaced: what is above them, they, and what is below them.
-- Assumes nothing.
use mathlib.Core.Path.{◌≡◌, sym, ap, ◌∙◌, subst}
use mathlib.Core.Logic.{inl, inr}
use Prim.Native.Nat.{ℕ, ◌+◌, ◌-◌, ◌*◌, ◌/◌, ◌%◌, ◌^◌, ◌≤◌, ◌<◌}
use native.Mathlib.Nat.{mod-lt, add_comm}
use native.Mathlib.Omega.{arith}
use lib.Arith.{digits_lt}
use lib.Pow.{pow_pos, pow-add, shr_lt}
use Rattle.registers.specs.Memory.{bit}
use Rattle.registers.specs.Storing.{Outside}
use Rattle.registers.proofs.Bit.{bit_low, bit_shifted, bit_under, bit_over}

module _ (place width bits old : ℕ) where
  abbrev below : ℕ
  below = bits % 2 ^ width * 2 ^ place + old % 2 ^ place

  below_small : below < 2 ^ (place + width)
  below_small =
      rw (add_comm place width, pow-add) (digits_lt (mod-lt bits (pow_pos width)) (mod-lt old (pow_pos place)))

  abbrev pub merged : ℕ
  merged = old / 2 ^ (place + width) * 2 ^ (place + width) + below

  pub merged_small : (w : ℕ) → place + width ≤ w → old < 2 ^ w → merged < 2 ^ w
  merged_small w h small =
      let e : w - (place + width) + (place + width) ≡ w = omega arith in
      let wide : old < 2 ^ (w - (place + width) + (place + width)) = rw e small in
      subst (λ (x : ℕ). merged < x) (sym (pow-add 2 (w - (place + width)) (place + width)) ∙ ap (λ (k : ℕ). 2 ^ k) e)
      (digits_lt (shr_lt (w - (place + width)) (place + width) wide) below_small)

  pub merged_new : (n : ℕ) → n < width → bit merged (place + n) ≡ bit bits n
  merged_new n h =
      bit_under (place + width) (old / 2 ^ (place + width)) below (place + n) below_small (omega arith)
      ∙ bit_over place (bits % 2 ^ width) (old % 2 ^ place) n (mod-lt old (pow_pos place)) ∙ bit_low width bits n h

  pub merged_old : (p : ℕ) → Outside place width p → bit merged p ≡ bit old p
  merged_old p out =
      elim out [
        | inl l ↦ bit_under (place + width) (old / 2 ^ (place + width)) below p below_small (omega arith)
            ∙ bit_under place (bits % 2 ^ width) (old % 2 ^ place) p (mod-lt old (pow_pos place)) l ∙ bit_low place old p l
        | inr l ↦ let e : place + width + (p - (place + width)) ≡ p = omega arith in
            ap (bit merged) (sym e) ∙ bit_over (place + width) (old / 2 ^ (place + width)) below (p - (place + width)) below_small
            ∙ bit_shifted (place + width) old (p - (place + width)) ∙ ap (bit old) e
      ]
