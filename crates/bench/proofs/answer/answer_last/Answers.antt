-- `answer_last` meets its contract: a line of no characters is the empty one.
-- Assumes nothing.
use Rattle.std.proofs.Common.{◌≡◌, refl, List, [], ◌∷◌, ℕ, length, arith}
use Rattle.bench.specs.Bench.{Answered}
use Rattle.bench.specs.Input.{LastAnswered}
use Rattle.bench.proofs.Standing.{stands_none, stands_as}
use Rattle.bench.proofs.answer.answer_last.Goals as goal

none_answered : (line image : List ℕ) → length line ≡ 0 → LastAnswered line image image []
unfolding LastAnswered
none_answered [] image e = (refl, refl)
none_answered (c ∷ rest) image e = absurd (omega (arith, e))

some_answered : (line image image_after text : List ℕ) → (length line ≡ 0 → ⊥) → Answered line image image_after text
    → LastAnswered line image image_after text
unfolding LastAnswered
some_answered [] image image_after text some answered = absurd (some refl)
some_answered (c ∷ rest) image image_after text some answered = answered

pub returns-then-line-eq0 : goal.returns-then-line-eq0
returns-then-line-eq0 c = stands_none _ _ (none_answered c.args.line.now c.args.image.now c.if-line-eq0.true)

pub returns : goal.returns
returns c =
    stands_as _ _ _ _ c.answer.ensures _
    (λ text. some_answered c.args.line.now c.args.image.now _ text c.if-line-eq0.false)
