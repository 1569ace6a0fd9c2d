-- The laws of specs/Laws.antt, each under its name.
-- Assumes nothing.
use mathlib.Core.Path.{◌≡◌, refl, ap, ◌∙◌}
use mathlib.Core.Bool.{Bool, true, false}
use mathlib.Core.List.{List, ◌++◌}
use Prim.Native.Nat.{ℕ, ◌+◌, ◌≤◌}
use native.Mathlib.Omega.{arith}
use lib.Bits.{bit_xor}
use lib.ListN.{length, take, drop}
use Rattle.promise.proofs.Promise.{equal_determined, decides_determined, attempt_determined}
use Rattle.check_word.specs.CheckWord.{start, add_bytes, check_word, sum}
use Rattle.check_word.specs.Frame.{framed, Right}
use Rattle.check_word.specs.Line.{line_bits, differences, ones_at, Shown, two, odd, burst}
use Rattle.check_word.specs.Laws as laws
use Rattle.check_word.proofs.Fed.{fed, add_bytes_fed, fed_sum, length_sum}
use Rattle.check_word.proofs.Line.{fed_bits, length_line, length_differences}
use Rattle.check_word.proofs.Frame.{framed_right, framed_bytes, put_right, differences_zero}
use Rattle.check_word.proofs.Clear.{two_never_zero, burst_never_zero}
use Rattle.check_word.proofs.Parity.{odd_never_zero}

pub NoBytes : laws.NoBytes
unfolding check_word add_bytes
NoBytes = refl

-- three start words leave one: two of them cancel
pub Sum : laws.Sum
unfolding check_word
Sum a b c h k =
    simp add_bytes_fed
    (fed_sum 8 (sum a b) c 0 start (length_sum a b h ∙ k)
    ∙ ap (λ (w : ℕ). bit_xor w (fed 8 start c)) (fed_sum 8 a b start start h))

-- differences of a kind that shows never leave 0
shown_never_zero : (xs : List Bool) → length xs ≤ 2048 → Shown (ones_at 0 xs) → fed_bits 0 xs ≡ 0 → ⊥
shown_never_zero xs l (two s) e = two_never_zero xs 0 l s e
shown_never_zero xs l (odd s) e = odd_never_zero xs 0 s e
shown_never_zero xs l (burst s) e = burst_never_zero xs 0 s e

pub Damage : laws.Damage
Damage f g d right =
    shown_never_zero (differences (line_bits f) (line_bits g))
    (omega (arith, length_differences (line_bits f) (line_bits g), length_line f)) d.shown
    (differences_zero f g d right)

pub DamageTold : laws.DamageTold
DamageTold f g d true says = absurd (Damage f g d says)
DamageTold f g d false says = refl

pub Framing : laws.Framing
Framing = framed_right

pub FramedBytes : laws.FramedBytes
FramedBytes = framed_bytes

pub PutFraming : laws.PutFraming
PutFraming = put_right

pub CheckWordDetermined : laws.CheckWordDetermined
CheckWordDetermined bytes = equal_determined (check_word bytes)

pub IsRightDetermined : laws.IsRightDetermined
IsRightDetermined frame = decides_determined (Right frame)

pub PutCheckWordDetermined : laws.PutCheckWordDetermined
PutCheckWordDetermined n before =
    attempt_determined _ _ before (λ room. equal_determined (framed (take n before) ++ drop (n + 2) before))
