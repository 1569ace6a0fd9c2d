-- A damaged reply is refused with 71, if the request's fields and the lent buffer are not refused with 70.
-- Assumes nothing.
use mathlib.Core.Path.{◌≡◌, ap, subst}
use mathlib.Core.Logic.{inl, inr}
use mathlib.Core.List.{List}
use Prim.Native.Nat.{ℕ}
use lib.ListN.{length}
use Rattle.std.specs.Prelude.{Result, Ok, Err}
use Rattle.check_word.specs.Frame.{Right}
use Rattle.check_word.proofs.Laws as check-word
use Rattle.master.specs.declared.Request.{Request}
use Rattle.master.specs.declared.Refusal.{Refusal}
use Rattle.master.specs.declared.Refusal.TheVariants.{CheckWord}
use Rattle.master.specs.declared.Reading.{Reading}
use Rattle.master.specs.Refusals.{refusal_number, FieldsRefused, RefusedBy}
use Rattle.master.specs.Reading.{reading_lines, ToldBy, Left}
use Rattle.master.specs.Laws.{DamagedReply}
use Rattle.master.proofs.Numbers.{refusals_apart}

module _ (request : Request) (room : ℕ) (reply : List ℕ) (fields : FieldsRefused request room → ⊥) (wrong : Right reply → ⊥) where
  by_71 : (number : ℕ) → RefusedBy (reading_lines request room reply) number → number ≡ refusal_number CheckWord
  by_71 number (inl (refused, is)) = absurd (fields refused)
  by_71 number (inr (kept, inl (bad, is))) = is
  by_71 number (inr (kept, inr (not-bad, later))) = absurd (not-bad (inr wrong))

  wrong_refused : (answer : Result Reading Refusal) → ToldBy request room reply answer → answer ≡ Err CheckWord
  wrong_refused (Err why) told = ap Err (refusals_apart why CheckWord (by_71 (refusal_number why) told))
  wrong_refused (Ok reading) told = absurd (told.0.1.0 (inr wrong))

pub damaged_refused : DamagedReply
damaged_refused request right reply before answer after fields damaged read =
    let wrong = check-word.Damage right reply damaged in
    let same = wrong_refused request (length before) reply fields wrong answer read.told in
    (same, subst (λ (r : Result Reading Refusal). Left reply before r after) same read.left)
