-- What each function of the library ensures is what the face's function of that name ensures (`Post`), and it requires nothing (`Pre`), as
-- the source has both contracts. So the face's laws hold of what a C program calls.
-- Assumes nothing.
use Rattle.std.proofs.Common.{◌≡◌, ℕ, List}
use Rattle.montrakit.proofs.Contracts as face
use Rattle.montrakit.proofs.montrakit_check_word.Reads as face_check_word
use Rattle.montrakit.proofs.montrakit_respond.Reads as face_respond
use Rattle.montrakit.proofs.montrakit_build.Reads as face_build
use Rattle.montrakit.proofs.montrakit_read.Reads as face_read
use Rattle.montrakit_c.proofs.montrakit_check_word.Reads as check_word
use Rattle.montrakit_c.proofs.montrakit_respond.Reads as respond
use Rattle.montrakit_c.proofs.montrakit_build.Reads as build
use Rattle.montrakit_c.proofs.montrakit_read.Reads as read

check_word_ensures : (κs : _) (a : _) (r : ℕ) (s : _) → check_word.Post κs a r s → face_check_word.Post κs a r s
check_word_ensures κs a r s told = told

respond_ensures : (κs : _) (a : _) (r : ℕ) (s : _) → respond.Post κs a r s → face_respond.Post κs a r s
respond_ensures κs a r s told = told

build_ensures : (κs : _) (a : _) (r : ℕ) (s : _) → build.Post κs a r s → face_build.Post κs a r s
build_ensures κs a r s told = told

read_ensures : (κs : _) (a : _) (r : ℕ) (s : _) → read.Post κs a r s → face_read.Post κs a r s
read_ensures κs a r s told = told

-- ---- each determines what is told, and what was lent to it, since the face's does (`x` and `y` are told, `s` and `t` are the parameters as
-- the call leaves them)

check_word_determined : (κs : _) (a : _) (x y : ℕ) (s t : _) → check_word.Post κs a x s → check_word.Post κs a y t → x ≡ y
check_word_determined κs a x y s t = face.check_word_determined κs a x y s t

respond_determined : (κs : _) (a : _) (x y : ℕ) (s t : _) → respond.Post κs a x s → respond.Post κs a y t
    → ◌≡◌ {A = ℕ × List ℕ × List ℕ} (x, s.1.1.1.1.1.0.now, s.1.1.1.1.1.1.0.now) (y, t.1.1.1.1.1.0.now, t.1.1.1.1.1.1.0.now)
respond_determined κs a x y s t = face.respond_determined κs a x y s t

build_determined : (κs : _) (a : _) (x y : ℕ) (s t : _) → build.Post κs a x s → build.Post κs a y t
    → ◌≡◌ {A = ℕ × List ℕ} (x, s.1.1.1.1.1.0.now) (y, t.1.1.1.1.1.0.now)
build_determined κs a x y s t = face.build_determined κs a x y s t

read_determined : (κs : _) (a : _) (x y : ℕ) (s t : _) → read.Post κs a x s → read.Post κs a y t
    → ◌≡◌ {A = ℕ × List ℕ} (x, s.1.1.1.1.1.0.now) (y, t.1.1.1.1.1.0.now)
read_determined κs a x y s t = face.read_determined κs a x y s t

-- ---- each takes any arguments

check_word_takes : (κs : _) (a : _) → check_word.Pre κs a
check_word_takes κs a = tt

respond_takes : (κs : _) (a : _) → respond.Pre κs a
respond_takes κs a = tt

build_takes : (κs : _) (a : _) → build.Pre κs a
build_takes κs a = tt

read_takes : (κs : _) (a : _) → read.Pre κs a
read_takes κs a = tt
