-- What can be decided, and does not fail, holds.
-- Assumes nothing.
use mathlib.Core.Path.{◌≡◌}
use mathlib.Core.Logic.Dec
use mathlib.Core.List.{List, List-discrete}
use Prim.Native.Nat.{ℕ, ◌-◌, ◌≤◌}
use native.Mathlib.Decide.{ℕ_discrete, dec_le, map_dec}
use lib.ListN.{length, take, drop}
use Rattle.check_word.specs.CheckWord.{check_word}
use Rattle.check_word.specs.Frame.{low_first, Right}

pub still_same : (a b : ℕ) → ((a ≡ b → ⊥) → ⊥) → a ≡ b
still_same a b = (Dec.not-not (ℕ_discrete a b)).0

pub still_at_most : (a b : ℕ) → ((a ≤ b → ⊥) → ⊥) → a ≤ b
still_at_most a b = (Dec.not-not (dec_le a b)).0

pub dec_right : (frame : List ℕ) → Dec (Right frame)
dec_right frame =
    let n = length frame - 2 in
    map_dec (λ both. record { enough = both.0; ends = both.1 }) (λ right. (right.enough, right.ends))
    (Dec.and (dec_le 2 (length frame)) (List-discrete ℕ_discrete (drop n frame) (low_first (check_word (take n frame)))))

pub still_right : (frame : List ℕ) → ((Right frame → ⊥) → ⊥) → Right frame
still_right frame = (Dec.not-not (dec_right frame)).0
