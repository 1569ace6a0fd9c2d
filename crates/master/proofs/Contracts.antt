-- The laws on answers, of the contracts as the source has them (`Post` is what a function ensures, `Pre` what it requires): `a` are
-- the arguments, `x` and `y` two answers, `s` and `t` the parameters as the call leaves them. `a.0` is the request, `a.1.0` the
-- data or the reply, `a.1.1.0` the lent buffer.
-- Assumes nothing.
use mathlib.Core.Path.{◌≡◌}
use mathlib.Core.List.{List}
use Prim.Native.Nat.{ℕ}
use lib.ListN.{length}
use Rattle.std.specs.Prelude.{Result, Ok, Err}
use Rattle.promise.proofs.Promise.{equal_determined}
use Rattle.check_word.specs.Frame.{Bytes}
use Rattle.check_word.specs.Line.{Damaged}
use Rattle.master.specs.declared.Function.{Function}
use Rattle.master.specs.declared.UnknownFunction.{UnknownFunction}
use Rattle.master.specs.declared.Refusal.{Refusal}
use Rattle.master.specs.declared.Refusal.TheVariants.{CheckWord}
use Rattle.master.specs.declared.Reading.{Reading}
use Rattle.master.specs.Refusals.{FieldsRefused}
use Rattle.master.specs.Laws.{BuiltFrame, values, ReplyWith}
use Rattle.master.proofs.Laws as laws
use Rattle.master.proofs.build.Reads as build
use Rattle.master.proofs.read_reply.Reads as read-reply
use Rattle.master.proofs.U8FromFunction.from.Reads as function-number
use Rattle.master.proofs.FunctionTryFromU8.try_from.Reads as function-with
use Rattle.master.proofs.U8FromRefusal.from.Reads as refusal-number

-- ---- each determines its answer, and what was lent to it

build_determined : (κs : _) (a : _) (x y : Result ℕ Refusal) (s t : _) → build.Post κs a x s → build.Post κs a y t
    → ◌≡◌ {A = Result ℕ Refusal × List ℕ} (x, s.1.1.0.now) (y, t.1.1.0.now)
build_determined κs a x y s t =
    laws.BuildDetermined a.0 a.1.0.now a.1.1.0.now (x, s.1.1.0.now) (y, t.1.1.0.now)

read_reply_determined : (κs : _) (a : _) (x y : Result Reading Refusal) (s t : _) → read-reply.Post κs a x s → read-reply.Post κs a y t
    → ◌≡◌ {A = Result Reading Refusal × List ℕ} (x, s.1.1.0.now) (y, t.1.1.0.now)
read_reply_determined κs a x y s t =
    laws.ReadReplyDetermined a.0 a.1.0.now a.1.1.0.now (x, s.1.1.0.now) (y, t.1.1.0.now)

function_number_determined : (κs : _) (a : _) (x y : ℕ) (s t : _) → function-number.Post κs a x s → function-number.Post κs a y t → x ≡ y
function_number_determined κs a x y s t = equal_determined _ x y

function_with_determined : (κs : _) (a : _) (x y : Result Function UnknownFunction) (s t : _) → function-with.Post κs a x s → function-with.Post κs a y t → x ≡ y
function_with_determined κs a x y s t = laws.FunctionIsDetermined a.0 x y

refusal_number_determined : (κs : _) (a : _) (x y : ℕ) (s t : _) → refusal-number.Post κs a x s → refusal-number.Post κs a y t → x ≡ y
refusal_number_determined κs a x y s t = equal_determined _ x y

-- ---- each takes any arguments

build_takes : (κs : _) (a : _) → build.Pre κs a
build_takes κs a = tt

read_reply_takes : (κs : _) (a : _) → read-reply.Pre κs a
read_reply_takes κs a = tt

function_number_takes : (κs : _) (a : _) → function-number.Pre κs a
function_number_takes κs a = tt

function_with_takes : (κs : _) (a : _) → function-with.Pre κs a
function_with_takes κs a = tt

refusal_number_takes : (κs : _) (a : _) → refusal-number.Pre κs a
refusal_number_takes κs a = tt

-- ---- what is built is right, what is accepted fits in every field, and damage is told

build_frames : (κs : _) (a : _) (n : ℕ) (s : _) → build.Post κs a (Ok n) s → BuiltFrame n s.1.1.0.now
build_frames κs a n s = laws.BuiltFrames a.0 a.1.0.now a.1.1.0.now n s.1.1.0.now

read_reply_only_that : (κs : _) (a : _) (x : Reading) (s : _) → read-reply.Post κs a (Ok x) s → Bytes a.1.0.now
    → ReplyWith a.0 (values x s.1.1.0.now) a.1.0.now x
read_reply_only_that κs a x s post bytes =
    (laws.OnlyThat).every_field a.0 a.1.0.now a.1.1.0.now x s.1.1.0.now bytes post

read_reply_tells : (right : List ℕ) (κs : _) (a : _) (x : Result Reading Refusal) (s : _) → read-reply.Post κs a x s
    → (FieldsRefused a.0 (length a.1.1.0.now) → ⊥) → Damaged right a.1.0.now
    → (x ≡ Err CheckWord) × (s.1.1.0.now ≡ a.1.1.0.now)
read_reply_tells right κs a x s post kept damaged =
    laws.DamagedReply a.0 right a.1.0.now a.1.1.0.now x s.1.1.0.now kept damaged post
