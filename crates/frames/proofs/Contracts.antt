-- Each promise determines its answer, of the contracts as the source has them (`Post` is what a function ensures, `Pre` what
-- it requires): `a` are the arguments, `x` and `y` two results, `s` and `t` the parameters as the call leaves them.
-- Assumes nothing.
use mathlib.Core.Path.{◌≡◌}
use mathlib.Core.Bool.{Bool}
use Prim.Native.Nat.{ℕ}
use Rattle.promise.proofs.Promise.{equal_determined}
use Rattle.std.specs.Prelude.{Option, Result}
use Rattle.frames.specs.declared.Act.{Act}
use Rattle.frames.specs.declared.Width.{Width}
use Rattle.frames.specs.declared.Code.{Code}
use Rattle.frames.specs.declared.UnknownCode.{UnknownCode}
use Rattle.frames.proofs.Laws as laws
use Rattle.frames.proofs.byte_at.Reads as byte_at
use Rattle.frames.proofs.number_at.Reads as number_at
use Rattle.frames.proofs.function_of.Reads as Function-of
use Rattle.frames.proofs.quantity_of.Reads as quantity-of
use Rattle.frames.proofs.most_of.Reads as most-of
use Rattle.frames.proofs.bytes_for.Reads as bytes-for
use Rattle.frames.proofs.request_length.Reads as request_length_lem
use Rattle.frames.proofs.reply_length.Reads as reply_length
use Rattle.frames.proofs.is_bit_value.Reads as is-bit-value
use Rattle.frames.proofs.U8FromCode.from.Reads as code-number
use Rattle.frames.proofs.CodeTryFromU8.try_from.Reads as code-with
use Rattle.frames.proofs.top_bit_set.Reads as top-bit-set

-- ---- each determines its answer

byte_at_determined : (κs : _) (a : _) (x y : ℕ) (s t : _) → byte_at.Post κs a x s → byte_at.Post κs a y t → x ≡ y
byte_at_determined κs a x y s t = equal_determined _ x y

number_at_determined : (κs : _) (a : _) (x y : ℕ) (s t : _) → number_at.Post κs a x s → number_at.Post κs a y t → x ≡ y
number_at_determined κs a x y s t = equal_determined _ x y

function_of_determined : (κs : _) (a : _) (x y : Option (Act × Width)) (s t : _) → Function-of.Post κs a x s → Function-of.Post κs a y t → x ≡ y
function_of_determined κs a x y s t = equal_determined _ x y

quantity_of_determined : (κs : _) (a : _) (x y : ℕ) (s t : _) → quantity-of.Post κs a x s → quantity-of.Post κs a y t → x ≡ y
quantity_of_determined κs a x y s t = equal_determined _ x y

most_of_determined : (κs : _) (a : _) (x y : ℕ) (s t : _) → most-of.Post κs a x s → most-of.Post κs a y t → x ≡ y
most_of_determined κs a x y s t = equal_determined _ x y

bytes_for_determined : (κs : _) (a : _) (x y : ℕ) (s t : _) → bytes-for.Post κs a x s → bytes-for.Post κs a y t → x ≡ y
bytes_for_determined κs a x y s t = equal_determined _ x y

request_length_determined : (κs : _) (a : _) (x y : ℕ) (s t : _) → request_length_lem.Post κs a x s → request_length_lem.Post κs a y t → x ≡ y
request_length_determined κs a x y s t = equal_determined _ x y

reply_length_determined : (κs : _) (a : _) (x y : ℕ) (s t : _) → reply_length.Post κs a x s → reply_length.Post κs a y t → x ≡ y
reply_length_determined κs a x y s t = equal_determined _ x y

is_bit_value_determined : (κs : _) (a : _) (x y : Bool) (s t : _) → is-bit-value.Post κs a x s → is-bit-value.Post κs a y t → x ≡ y
is_bit_value_determined κs a x y s t = laws.IsBitValueDetermined a.0 x y

code_number_determined : (κs : _) (a : _) (x y : ℕ) (s t : _) → code-number.Post κs a x s → code-number.Post κs a y t → x ≡ y
code_number_determined κs a x y s t = equal_determined _ x y

code_with_determined : (κs : _) (a : _) (x y : Result Code UnknownCode) (s t : _) → code-with.Post κs a x s → code-with.Post κs a y t → x ≡ y
code_with_determined κs a x y s t = laws.CodeIsDetermined a.0 x y

top_bit_set_determined : (κs : _) (a : _) (x y : ℕ) (s t : _) → top-bit-set.Post κs a x s → top-bit-set.Post κs a y t → x ≡ y
top_bit_set_determined κs a x y s t = equal_determined _ x y

-- ---- each takes any arguments

byte_at_takes : (κs : _) (a : _) → byte_at.Pre κs a
byte_at_takes κs a = tt

number_at_takes : (κs : _) (a : _) → number_at.Pre κs a
number_at_takes κs a = tt

function_of_takes : (κs : _) (a : _) → Function-of.Pre κs a
function_of_takes κs a = tt

quantity_of_takes : (κs : _) (a : _) → quantity-of.Pre κs a
quantity_of_takes κs a = tt

most_of_takes : (κs : _) (a : _) → most-of.Pre κs a
most_of_takes κs a = tt

bytes_for_takes : (κs : _) (a : _) → bytes-for.Pre κs a
bytes_for_takes κs a = tt

request_length_takes : (κs : _) (a : _) → request_length_lem.Pre κs a
request_length_takes κs a = tt

reply_length_takes : (κs : _) (a : _) → reply_length.Pre κs a
reply_length_takes κs a = tt

is_bit_value_takes : (κs : _) (a : _) → is-bit-value.Pre κs a
is_bit_value_takes κs a = tt

code_number_takes : (κs : _) (a : _) → code-number.Pre κs a
code_number_takes κs a = tt

code_with_takes : (κs : _) (a : _) → code-with.Pre κs a
code_with_takes κs a = tt

top_bit_set_takes : (κs : _) (a : _) → top-bit-set.Pre κs a
top_bit_set_takes κs a = tt
