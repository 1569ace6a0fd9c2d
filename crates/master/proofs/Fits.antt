-- A reply that fits its request: how long it is, and that one thing is read from it, the same beside any other request that it
-- fits.
-- Assumes nothing.
use mathlib.Core.Path.{◌≡◌, refl, sym, ap, ◌∙◌}
use mathlib.Core.Logic.{◌≢◌}
use mathlib.Core.List.{List}
use Prim.Native.Nat.{ℕ, ◌+◌}
use native.Mathlib.Omega.{arith}
use lib.ListN.{length}
use Rattle.frames.specs.declared.Act.{Act}
use Rattle.frames.specs.declared.Act.TheVariants.{Read, WriteOne, WriteRun}
use Rattle.frames.specs.declared.Width.{Width}
use Rattle.frames.specs.declared.Code.{Code}
use Rattle.frames.specs.Fields.{function_field}
use Rattle.frames.specs.Limits.{plain_length, reply_length}
use Rattle.frames.proofs.Laws as frames-laws
use Rattle.master.specs.declared.Request.{Request}
use Rattle.master.specs.declared.Reading.{Reading}
use Rattle.master.specs.declared.Reading.TheVariants.{Data, Written, Exception}
use Rattle.master.specs.Requests.{function_number, act_of, act, width}
use Rattle.master.specs.Reading.{Fits, FitsRead, FitsWrite, FitsException}
use Rattle.master.proofs.Numbers.{functions_apart, number_no_exception}

-- ---- how long it is

pub read_long : (request : Request) (reply : List ℕ) (n : ℕ) → FitsRead request reply n → length reply ≡ 5 + n
read_long request reply n fits =
    let reads = ap (λ (act : Act). reply_length act (width request) request.operand) fits.reads in
    omega (arith, fits.long, reads, fits.size)

pub other_than_read : (act : Act) (width : Width) (count : ℕ) → act ≢ Read → reply_length act width count ≡ plain_length
other_than_read Read width count writes = absurd (writes refl)
other_than_read WriteOne width count writes = refl
other_than_read WriteRun width count writes = refl

pub write_long : (request : Request) (reply : List ℕ) → FitsWrite request reply → length reply ≡ plain_length
write_long request reply fits =
    fits.long ∙ other_than_read (act request) (width request) request.operand fits.writes

-- ---- what is read from it

module _ (reply : List ℕ) where
  -- a read's reply is no write's: its function's number is one function's
  read_no_write : (p q : Request) (n : ℕ) → FitsRead p reply n → FitsWrite q reply → ⊥
  read_no_write p q n reads writes =
      let same = functions_apart q.function p.function (sym writes.function ∙ reads.function) in
      writes.writes (ap act_of same ∙ reads.reads)

  -- an exception's function is no function's number
  exception_alone : (p q : Request) (code : Code) → function_field reply ≡ function_number p.function
      → FitsException q reply code → ⊥
  exception_alone p q code is fits = number_no_exception p.function q.function (sym is ∙ fits.function)

  pub fits_one : (p q : Request) (a b : Reading) → Fits p reply a → Fits q reply b → a ≡ b
  fits_one p q (Data n) (Data m) f g = ap Data (sym f.byte_count ∙ g.byte_count)
  fits_one p q (Data n) Written f g = absurd (read_no_write p q n f g)
  fits_one p q (Data n) (Exception code) f g = absurd (exception_alone p q code f.function g)
  fits_one p q Written (Data n) f g = absurd (read_no_write q p n g f)
  fits_one p q Written Written f g = refl
  fits_one p q Written (Exception code) f g = absurd (exception_alone p q code f.function g)
  fits_one p q (Exception code) (Data n) f g = absurd (exception_alone q p code g.function f)
  fits_one p q (Exception code) Written f g = absurd (exception_alone q p code g.function f)
  fits_one p q (Exception a) (Exception b) f g = ap Exception (frames-laws.CodesApart a b (sym f.number ∙ g.number))
