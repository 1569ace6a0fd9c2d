-- The laws of the frames, as specs/Laws.antt states them.
-- Assumes nothing.
use mathlib.Core.Path.{◌≡◌, refl, sym, ap, ◌∙◌}
use Rattle.std.specs.Prelude.{Ok, Err}
use Prim.Native.Nat.{ℕ, ◌+◌, ◌%◌, ◌<◌}
use native.Mathlib.Omega.{arith}
use borrow.Author.Tests.{ne_eqb}
use Rattle.promise.proofs.Promise.{back_apart, decides_determined}
use Rattle.frames.specs.Laws as laws
use Rattle.frames.specs.declared.Act.TheVariants.{Read, WriteOne, WriteRun}
use Rattle.frames.specs.declared.Width.TheVariants.{Bit, Word}
use Rattle.frames.specs.Functions.{function_of}
use Rattle.frames.specs.Limits.{BitValue}
use Rattle.frames.specs.Exceptions.{code_number, top_bit_set}
use Rattle.frames.proofs.Codes.{code_of, code_back}

pub Alike : laws.Alike
unfolding function_of
Alike = (refl, refl)

pub TopBit : laws.TopBit
unfolding top_bit_set
TopBit function byte = (λ low. omega arith, λ high. omega arith)

-- what is 128 or more is none of the eight numbers
pub TopBitNoFunction : laws.TopBitNoFunction
unfolding function_of top_bit_set
TopBitNoFunction function =
    let other : (n : ℕ) → n < 0x80 → 0x80 + function % 0x80 ≡ n → ⊥ = λ n h e. omega arith in
    simp (
      ne_eqb _ 0x01 (other 0x01 (omega arith)),
      ne_eqb _ 0x02 (other 0x02 (omega arith)),
      ne_eqb _ 0x03 (other 0x03 (omega arith)),
      ne_eqb _ 0x04 (other 0x04 (omega arith)),
      ne_eqb _ 0x05 (other 0x05 (omega arith)),
      ne_eqb _ 0x06 (other 0x06 (omega arith)),
      ne_eqb _ 0x0f (other 0x0f (omega arith)),
      ne_eqb _ 0x10 (other 0x10 (omega arith)),
    )

pub CodesApart : laws.CodesApart
CodesApart = back_apart code_number code_of code_back

pub ExceptionLength : laws.ExceptionLength
ExceptionLength address function code = refl

pub ReplyLengths : laws.ReplyLengths
ReplyLengths Read Bit count some few = (omega arith, omega arith)
ReplyLengths Read Word count some few = (omega arith, omega arith)
ReplyLengths WriteOne width count some few = (omega arith, omega arith)
ReplyLengths WriteRun width count some few = (omega arith, omega arith)

pub RequestLengths : laws.RequestLengths
RequestLengths Read width count frame few counted = (omega arith, omega arith)
RequestLengths WriteOne width count frame few counted = (omega arith, omega arith)
RequestLengths WriteRun Bit count frame few counted = (omega arith, omega (arith, counted refl))
RequestLengths WriteRun Word count frame few counted = (omega arith, omega (arith, counted refl))

pub IsBitValueDetermined : laws.IsBitValueDetermined
IsBitValueDetermined value = decides_determined (BitValue value)

pub CodeIsDetermined : laws.CodeIsDetermined
CodeIsDetermined number (Ok a) (Ok b) p q = ap Ok (CodesApart a b (sym p ∙ q))
CodeIsDetermined number (Ok a) (Err v) p q = absurd (q.1 a p)
CodeIsDetermined number (Err u) (Ok b) p q = absurd (p.1 b q)
CodeIsDetermined number (Err u) (Err v) p q = grind (arith, p.0, q.0)
