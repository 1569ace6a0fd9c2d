-- The laws on answers, of the contracts as the source has them (`Post` is what a function ensures, `Pre` what it requires): `a` are
-- the arguments, `x` and `y` what is told, `s` and `t` the parameters as the call leaves them. Of `montrakit_respond` `a.0` is the
-- own address, `a.1.0` the counting, `a.1.1.0` the state, and then come the areas, the frame, the image and the reply buffer; of
-- `montrakit_build` and `montrakit_read` the four fields, the data or the reply, and the lent buffer.
-- Assumes nothing.
use mathlib.Core.Path.{◌≡◌}
use mathlib.Core.List.{List}
use Prim.Native.Nat.{ℕ}
use Rattle.promise.proofs.Promise.{equal_determined}
use Rattle.montrakit.proofs.Laws as laws
use Rattle.montrakit.proofs.montrakit_check_word.Reads as check-word
use Rattle.montrakit.proofs.montrakit_respond.Reads as respond
use Rattle.montrakit.proofs.montrakit_build.Reads as build
use Rattle.montrakit.proofs.montrakit_read.Reads as read

-- ---- each determines what is told, and what was lent to it

pub check_word_determined : (κs : _) (a : _) (x y : ℕ) (s t : _) → check-word.Post κs a x s → check-word.Post κs a y t → x ≡ y
check_word_determined κs a x y s t = equal_determined _ x y

pub respond_determined : (κs : _) (a : _) (x y : ℕ) (s t : _) → respond.Post κs a x s → respond.Post κs a y t
    → ◌≡◌ {A = ℕ × List ℕ × List ℕ} (x, s.1.1.1.1.1.0.now, s.1.1.1.1.1.1.0.now)
    (y, t.1.1.1.1.1.0.now, t.1.1.1.1.1.1.0.now)
respond_determined κs a x y s t =
    laws.RespondDetermined a.0 a.1.0 a.1.1.0 a.1.1.1.0.now a.1.1.1.1.0.now a.1.1.1.1.1.0.now
    a.1.1.1.1.1.1.0.now (x, s.1.1.1.1.1.0.now, s.1.1.1.1.1.1.0.now)
    (y, t.1.1.1.1.1.0.now, t.1.1.1.1.1.1.0.now)

pub build_determined : (κs : _) (a : _) (x y : ℕ) (s t : _) → build.Post κs a x s → build.Post κs a y t
    → ◌≡◌ {A = ℕ × List ℕ} (x, s.1.1.1.1.1.0.now) (y, t.1.1.1.1.1.0.now)
build_determined κs a x y s t =
    laws.BuildDetermined a.0 a.1.0 a.1.1.0 a.1.1.1.0 a.1.1.1.1.0.now a.1.1.1.1.1.0.now
    (x, s.1.1.1.1.1.0.now) (y, t.1.1.1.1.1.0.now)

pub read_determined : (κs : _) (a : _) (x y : ℕ) (s t : _) → read.Post κs a x s → read.Post κs a y t
    → ◌≡◌ {A = ℕ × List ℕ} (x, s.1.1.1.1.1.0.now) (y, t.1.1.1.1.1.0.now)
read_determined κs a x y s t =
    laws.ReadDetermined a.0 a.1.0 a.1.1.0 a.1.1.1.0 a.1.1.1.1.0.now a.1.1.1.1.1.0.now
    (x, s.1.1.1.1.1.0.now) (y, t.1.1.1.1.1.0.now)

-- ---- each takes any arguments

check_word_takes : (κs : _) (a : _) → check-word.Pre κs a
check_word_takes κs a = tt

respond_takes : (κs : _) (a : _) → respond.Pre κs a
respond_takes κs a = tt

build_takes : (κs : _) (a : _) → build.Pre κs a
build_takes κs a = tt

read_takes : (κs : _) (a : _) → read.Pre κs a
read_takes κs a = tt
