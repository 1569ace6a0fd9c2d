-- The laws on answers, of the contracts as the source has them (`Post` is what a function ensures, `Pre` what it requires):
-- `a` are the arguments, `r` the result, `s` the parameters as the call leaves them.
-- Assumes nothing.
use mathlib.Core.Path.{◌≡◌, refl}
use mathlib.Core.Bool.{Bool, false}
use mathlib.Core.List.{List}
use Prim.Native.Nat.{ℕ, ◌+◌}
use lib.ListN.{take}
use Rattle.std.specs.Result.{is_ok}
use Rattle.std.specs.declared.result.Result.{Result}
use Rattle.std.specs.declared.result.Result.TheVariants.{Ok}
use Rattle.promise.proofs.Promise.{answers_by_ok}
use Rattle.check_word.specs.declared.NoRoom.{NoRoom}
use Rattle.check_word.specs.Frame.{Right}
use Rattle.check_word.specs.Line.{Damaged}
use Rattle.check_word.proofs.Laws as laws
use Rattle.check_word.proofs.check_word.Reads as check-word
use Rattle.check_word.proofs.is_right.Reads as is_right
use Rattle.check_word.proofs.put_check_word.Reads as put-check-word

-- ---- each determines its answer

check_word_determined : (κs : _) (a : _) (x y : ℕ) (s t : _) → check-word.Post κs a x s → check-word.Post κs a y t → x ≡ y
check_word_determined κs a x y s t p q = laws.CheckWordDetermined a.0.now x y p q

is_right_determined : (κs : _) (a : _) (x y : Bool) (s t : _) → is_right.Post κs a x s → is_right.Post κs a y t → x ≡ y
is_right_determined κs a x y s t p q = laws.IsRightDetermined a.0.now x y p q

put_check_word_determined : (κs : _) (a : _) (x y : Result (Unit {0}) NoRoom) (s t : _) → put-check-word.Post κs a x s → put-check-word.Post κs a y t
    → ◌≡◌ {A = Result (Unit {0}) NoRoom × List ℕ} (x, s.0.now) (y, t.0.now)
put_check_word_determined κs a x y s t p q =
    answers_by_ok (λ e f. refl) (laws.PutCheckWordDetermined a.1.0 a.0.now (is_ok x, s.0.now) (is_ok y, t.0.now) p q)

-- ---- each takes any arguments

check_word_takes : (κs : _) (a : _) → check-word.Pre κs a
check_word_takes κs a = tt

is_right_takes : (κs : _) (a : _) → is_right.Pre κs a
is_right_takes κs a = tt

put_check_word_takes : (κs : _) (a : _) → put-check-word.Pre κs a
put_check_word_takes κs a = tt

-- ---- damage is told, and what was put is right

is_right_tells : (f : List ℕ) (κs : _) (a : _) (r : Bool) (s : _) → is_right.Post κs a r s → Damaged f a.0.now → r ≡ false
is_right_tells f κs a r s says d = laws.DamageTold f a.0.now d r says

put_check_word_frames : (κs : _) (a : _) (s : _) → put-check-word.Post κs a (Ok tt) s → Right (take (a.1.0 + 2) s.0.now)
put_check_word_frames κs a s put = laws.PutFraming a.1.0 a.0.now s.0.now put
