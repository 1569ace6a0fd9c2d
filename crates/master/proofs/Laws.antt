-- The laws of the master's half, as specs/Laws.antt states them.
-- Assumes nothing.
use mathlib.Core.Path.{refl, sym, ap, ◌∙◌}
use native.Mathlib.Omega.{arith}
use Rattle.std.specs.Prelude.{Ok, Err}
use Rattle.frames.specs.Functions.{function_of}
use Rattle.master.specs.declared.Function.TheVariants.{ReadBits01, ReadBits02, ReadWords03, ReadWords04, WriteBit05, WriteWord06, WriteBits0F, WriteWords10}
use Rattle.master.specs.Laws as laws
use Rattle.master.proofs.Numbers.{functions_apart, refusals_apart}
use Rattle.master.proofs.Requests.{build_determined, built_frame}
use Rattle.master.proofs.Readings.{read_reply_determined}
use Rattle.master.proofs.Accepted.{every_field, one_value, but_for_those}
use Rattle.master.proofs.Damaged.{damaged_refused}

pub FunctionsInTable : laws.FunctionsInTable
unfolding function_of
FunctionsInTable ReadBits01 = refl
FunctionsInTable ReadBits02 = refl
FunctionsInTable ReadWords03 = refl
FunctionsInTable ReadWords04 = refl
FunctionsInTable WriteBit05 = refl
FunctionsInTable WriteWord06 = refl
FunctionsInTable WriteBits0F = refl
FunctionsInTable WriteWords10 = refl

pub FunctionsApart : laws.FunctionsApart
FunctionsApart = functions_apart

pub FunctionIsDetermined : laws.FunctionIsDetermined
FunctionIsDetermined number (Ok a) (Ok b) p q = ap Ok (functions_apart a b (sym p ∙ q))
FunctionIsDetermined number (Ok a) (Err x) p (e, none) = absurd (none a p)
FunctionIsDetermined number (Err x) (Ok b) (e, none) q = absurd (none b q)
FunctionIsDetermined number (Err x) (Err y) p q = grind (arith, p.0, q.0)

pub RefusalsApart : laws.RefusalsApart
RefusalsApart = refusals_apart

pub BuildDetermined : laws.BuildDetermined
BuildDetermined = build_determined

pub ReadReplyDetermined : laws.ReadReplyDetermined
ReadReplyDetermined = read_reply_determined

pub BuiltFrames : laws.BuiltFrames
BuiltFrames = built_frame

pub OnlyThat : laws.OnlyThat
OnlyThat = record { every_field = every_field; one_value = one_value; but_for_those = but_for_those }

pub DamagedReply : laws.DamagedReply
DamagedReply = damaged_refused
