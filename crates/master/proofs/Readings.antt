-- What reading a reply may answer: a refusal, or what fits; one thing for one call, and one content of the buffer.
-- Assumes nothing.
use mathlib.Core.Path.{sym, ap, subst}
use mathlib.Core.List.{List, ◌++◌}
use Prim.Native.Nat.{ℕ}
use lib.ListN.{length, drop}
use Rattle.std.specs.Prelude.{Result, Ok, Err}
use Rattle.promise.specs.Promise.{Determined}
use Rattle.promise.proofs.Promise.{equal_determined}
use Rattle.master.specs.declared.Request.{Request}
use Rattle.master.specs.declared.Refusal.{Refusal}
use Rattle.master.specs.declared.Reading.{Reading}
use Rattle.master.specs.declared.Reading.TheVariants.{Data, Written, Exception}
use Rattle.master.specs.Refusals.{refusal_number, Line}
use Rattle.master.specs.Reading.{data_in, reading_lines, ToldBy, Left}
use Rattle.master.specs.Laws.{ReadReplyDetermined}
use Rattle.master.proofs.Numbers.{refusals_apart}
use Rattle.master.proofs.Lines.{refused_determined, refused_or_not}
use Rattle.master.proofs.Fits.{fits_one}

module _ (request : Request) (room : ℕ) (reply : List ℕ) where
  abbrev lines : List Line
  lines = reading_lines request room reply

  told_determined : Determined (ToldBy request room reply)
  told_determined (Err a) (Err b) p q =
      ap Err (refusals_apart a b (refused_determined lines (refusal_number a) (refusal_number b) p q))
  told_determined (Err a) (Ok b) p q = absurd (refused_or_not lines (refusal_number a) p q.0)
  told_determined (Ok a) (Err b) p q = absurd (refused_or_not lines (refusal_number b) q p.0)
  told_determined (Ok a) (Ok b) p q = ap Ok (fits_one reply request request a b p.1 q.1)

left_determined : (reply before : List ℕ) (answer : Result Reading Refusal) → Determined (Left reply before answer)
left_determined reply before (Err why) = equal_determined before
left_determined reply before (Ok (Data n)) = equal_determined (data_in n reply ++ drop n before)
left_determined reply before (Ok Written) = equal_determined before
left_determined reply before (Ok (Exception code)) = equal_determined before

pub read_reply_determined : ReadReplyDetermined
read_reply_determined request reply before (a, x) (b, y) p q =
    let same = told_determined request (length before) reply a b p.told q.told in
    let left = subst (λ (answer : Result Reading Refusal). Left reply before answer y) (sym same) q.left in
    cc (same, left_determined reply before a x y p.left left)
