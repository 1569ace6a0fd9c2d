-- A damaged frame is met with silence 11: of the lines above it, four refuse, and its length is a frame's.
-- Assumes nothing.
use mathlib.Core.Path.{◌≡◌}
use mathlib.Core.Logic.{inl, inr, ◌≢◌, ⊎_elim}
use mathlib.Core.List.{List}
use Prim.Native.Nat.{ℕ}
use native.Mathlib.Omega.{arith}
use lib.ListN.{drop}
use Rattle.check_word.specs.Line.{Damaged}
use Rattle.check_word.proofs.Laws as check-word
use Rattle.slave.specs.Numbers.{Kind, silence}
use Rattle.slave.specs.Table.{FirstDecides}
use Rattle.slave.specs.Answer.{Call}
use Rattle.slave.proofs.Cases.{kind_place}
use Rattle.slave.proofs.Lines.{skipped}
use Rattle.demands.specs.Terms.{lines_of}

module _ (call : Call) (right : List ℕ) (damaged : Damaged right call.frame) (kind : Kind) where
  from_line_10 : FirstDecides (drop 4 (lines_of call)) kind → kind ≡ silence 11
  from_line_10 (inl (no_length, is)) =
      absurd
      (⊎_elim (λ few. omega (arith, damaged.at_least, damaged.as_long)) (λ many. omega (arith, damaged.at_most, damaged.as_long))
      no_length)
  from_line_10 (inr (length, inl (wrong, is))) = is
  from_line_10 (inr (length, inr (not-wrong, later))) = absurd (not-wrong (check-word.Damage right call.frame damaged))

  pub damage_line : kind_place kind ≢ 0 → FirstDecides (lines_of call) kind → kind ≡ silence 11
  damage_line other decided =
      from_line_10 (skipped other (skipped other (skipped other (skipped other decided).1).1).1).1
