-- Each function and each refusal, from its number; and no function's number has its top bit set.
-- Assumes nothing.
use mathlib.Core.Path.{◌≡◌, refl}
use mathlib.Core.List.{[], ◌∷◌, ◌++◌}
use Prim.Native.Nat.{ℕ, ◌-◌, ◌<◌}
use native.Mathlib.Omega.{arith}
use lib.ListN.{get_or, replicate}
use Rattle.promise.proofs.Promise.{back_apart}
use Rattle.frames.specs.Exceptions.{top_bit_set}
use Rattle.frames.proofs.Laws as frames-laws
use Rattle.master.specs.declared.Function.{Function}
use Rattle.master.specs.declared.Function.TheVariants.{ReadBits01, ReadBits02, ReadWords03, ReadWords04, WriteBit05, WriteWord06, WriteBits0F, WriteWords10}
use Rattle.master.specs.declared.Refusal.{Refusal}
use Rattle.master.specs.declared.Refusal.TheVariants.{Request, CheckWord, Reply}
use Rattle.master.specs.Requests.{function_number}
use Rattle.master.specs.Refusals.{refusal_number}

-- ---- functions

-- numbers 07 to 0E are no function's
abbrev function_at : ℕ → Function
function_at number =
    get_or
    ((ReadBits01 ∷ ReadBits02 ∷ ReadWords03 ∷ ReadWords04 ∷ WriteBit05 ∷ WriteWord06 ∷ [])
    ++ replicate 8 ReadBits01
    ++ (WriteBits0F ∷ WriteWords10 ∷ []))
    (number - 1) ReadBits01

function_back : (function : Function) → function_at (function_number function) ≡ function
function_back ReadBits01 = refl
function_back ReadBits02 = refl
function_back ReadWords03 = refl
function_back ReadWords04 = refl
function_back WriteBit05 = refl
function_back WriteWord06 = refl
function_back WriteBits0F = refl
function_back WriteWords10 = refl

pub functions_apart : (a b : Function) → function_number a ≡ function_number b → a ≡ b
functions_apart = back_apart function_number function_at function_back

number_small : (function : Function) → function_number function < 0x80
number_small ReadBits01 = omega arith
number_small ReadBits02 = omega arith
number_small ReadWords03 = omega arith
number_small ReadWords04 = omega arith
number_small WriteBit05 = omega arith
number_small WriteWord06 = omega arith
number_small WriteBits0F = omega arith
number_small WriteWords10 = omega arith

-- a function's number is not that of an exception
pub number_no_exception : (a b : Function) → function_number a ≡ top_bit_set (function_number b) → ⊥
number_no_exception a b e =
    let small = number_small b in
    omega (arith, e, number_small a, (frames-laws.TopBit (function_number b) (omega (arith, small))).0 small)

-- ---- refusals

abbrev refusal_of : ℕ → Refusal
refusal_of number = get_or (Request ∷ CheckWord ∷ Reply ∷ []) (number - 70) Request

refusal_back : (why : Refusal) → refusal_of (refusal_number why) ≡ why
refusal_back Request = refl
refusal_back CheckWord = refl
refusal_back Reply = refl

pub refusals_apart : (a b : Refusal) → refusal_number a ≡ refusal_number b → a ≡ b
refusals_apart = back_apart refusal_number refusal_of refusal_back
