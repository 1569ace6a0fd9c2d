-- That nothing fits a reply, by what its request's function does.
-- Assumes nothing.
use mathlib.Core.Path.{◌≡◌, sym, ◌∙◌}
use mathlib.Core.Logic.{◌≢◌}
use mathlib.Core.List.{List}
use Prim.Native.Nat.{ℕ}
use Rattle.frames.specs.declared.Act.TheVariants.{Read}
use Rattle.frames.specs.declared.Code.{Code}
use Rattle.frames.specs.Fields.{function_field}
use Rattle.frames.specs.Exceptions.{top_bit_set}
use Rattle.master.specs.declared.Request.{Request}
use Rattle.master.specs.declared.Reading.TheVariants.{Data, Written, Exception}
use Rattle.master.specs.Requests.{function_number, act}
use Rattle.master.specs.Reading.{FitsRead, FitsWrite, FitsException, NothingFits}
use Rattle.master.proofs.Numbers.{number_no_exception}

-- ---- no reading fits

module _ (request : Request) (reply : List ℕ) where
  -- where none of the three kinds does
  pub nothing_fits : ((n : ℕ) → FitsRead request reply n → ⊥) → (FitsWrite request reply → ⊥)
      → ((code : Code) → FitsException request reply code → ⊥) → NothingFits request reply
  nothing_fits read write exception (Data n) fits = read n fits
  nothing_fits read write exception Written fits = write fits
  nothing_fits read write exception (Exception code) fits = exception code fits

  -- a function's number with its top bit set is another
  plain_or_set : function_field reply ≡ function_number request.function
      → function_field reply ≡ top_bit_set (function_number request.function) → ⊥
  plain_or_set plain set = number_no_exception request.function request.function (sym plain ∙ set)

  -- where the function's top bit is set, but no exception fits
  pub no_exception : function_field reply ≡ top_bit_set (function_number request.function)
      → ((code : Code) → FitsException request reply code → ⊥) → NothingFits request reply
  no_exception set =
      nothing_fits (λ n fits. plain_or_set fits.function set)
      (λ fits. plain_or_set fits.function set)

  -- where the function writes, but no write fits
  pub no_write : function_field reply ≡ function_number request.function → act request ≢ Read
      → (FitsWrite request reply → ⊥) → NothingFits request reply
  no_write plain writes none =
      nothing_fits (λ n fits. writes fits.reads) none (λ code fits. plain_or_set plain fits.function)

  -- where it reads, but no read fits
  pub no_read : function_field reply ≡ function_number request.function → act request ≡ Read
      → ((n : ℕ) → FitsRead request reply n → ⊥) → NothingFits request reply
  no_read plain reads none =
      nothing_fits none (λ fits. fits.writes reads) (λ code fits. plain_or_set plain fits.function)
