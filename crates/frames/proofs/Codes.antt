-- Each exception code, from its number.
-- Assumes nothing.
use mathlib.Core.Path.{◌≡◌, refl}
use mathlib.Core.List.{[], ◌∷◌}
use Prim.Native.Nat.{ℕ, ◌-◌}
use lib.ListN.{get_or}
use Rattle.frames.specs.declared.Code.{Code}
use Rattle.frames.specs.declared.Code.TheVariants.{Function, Address, Value, NotReady, ReadOnly}
use Rattle.frames.specs.Exceptions.{code_number}

-- numbers 5, 6 and 7 are no code's
abbrev pub code_of : ℕ → Code
code_of number =
    get_or (Function ∷ Address ∷ Value ∷ NotReady ∷ Function ∷ Function ∷ Function ∷ ReadOnly ∷ []) (number - 1) Function

pub code_back : (code : Code) → code_of (code_number code) ≡ code
code_back Function = refl
code_back Address = refl
code_back Value = refl
code_back NotReady = refl
code_back ReadOnly = refl
