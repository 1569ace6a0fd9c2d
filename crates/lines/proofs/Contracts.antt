-- The laws on answers, of the contracts as the source has them (`Post` is what a function ensures, `Pre` what it requires):
-- `a` are the arguments, `x` and `y` results, `s` and `t` the parameters as a call leaves them.
-- Assumes nothing.
use mathlib.Core.Path.{◌≡◌}
use mathlib.Core.List.{List}
use Prim.Native.Nat.{ℕ}
use Rattle.std.proofs.Common.{Option}
use Rattle.lines.specs.declared.Taken.{Taken}
use Rattle.lines.specs.Hex.{spaced}
use Rattle.lines.specs.Outcomes.{bad_line, outcome_text, as_line}
use Rattle.lines.proofs.Laws as laws
use Rattle.lines.proofs.take_line.Reads as take-line
use Rattle.lines.proofs.read_frame.Reads as read-frame
use Rattle.lines.proofs.write_bytes.Reads as write_bytes
use Rattle.lines.proofs.write_outcome.Reads as write-outcome
use Rattle.lines.proofs.write_bad_line.Reads as write-bad-line

-- ---- each determines its answer, and what was lent to it

take_line_determined : (κs : _) (a : _) (x y : Taken) (s t : _) → take-line.Post κs a x s → take-line.Post κs a y t
    → ◌≡◌ {A = Taken × List ℕ} (x, s.1.0.now) (y, t.1.0.now)
take_line_determined κs a x y s t p q =
    laws.TakeLineDetermined a.0.now a.1.0.now a.1.1.0 (x, s.1.0.now) (y, t.1.0.now) p q

read_frame_determined : (κs : _) (a : _) (x y : Option ℕ) (s t : _) → read-frame.Post κs a x s → read-frame.Post κs a y t
    → ◌≡◌ {A = Option ℕ × List ℕ} (x, s.1.0.now) (y, t.1.0.now)
read_frame_determined κs a x y s t p q =
    laws.ReadFrameDetermined a.0.now a.1.0.now (x, s.1.0.now) (y, t.1.0.now) p q

write_bytes_determined : (κs : _) (a : _) (x y : Option ℕ) (s t : _) → write_bytes.Post κs a x s → write_bytes.Post κs a y t
    → ◌≡◌ {A = Option ℕ × List ℕ} (x, s.1.0.now) (y, t.1.0.now)
write_bytes_determined κs a x y s t p q =
    laws.WrittenDetermined (spaced a.0.now) a.1.0.now (x, s.1.0.now) (y, t.1.0.now) p q

write_outcome_determined : (κs : _) (a : _) (x y : Option ℕ) (s t : _) → write-outcome.Post κs a x s → write-outcome.Post κs a y t
    → ◌≡◌ {A = Option ℕ × List ℕ} (x, s.1.1.0.now) (y, t.1.1.0.now)
write_outcome_determined κs a x y s t p q =
    laws.WrittenDetermined (as_line (outcome_text a.0 a.1.0.now)) a.1.1.0.now
    (x, s.1.1.0.now) (y, t.1.1.0.now) p q

write_bad_line_determined : (κs : _) (a : _) (x y : Option ℕ) (s t : _) → write-bad-line.Post κs a x s → write-bad-line.Post κs a y t
    → ◌≡◌ {A = Option ℕ × List ℕ} (x, s.0.now) (y, t.0.now)
write_bad_line_determined κs a x y s t p q =
    laws.WrittenDetermined (as_line bad_line) a.0.now (x, s.0.now) (y, t.0.now) p q

-- ---- each takes any arguments

take_line_takes : (κs : _) (a : _) → take-line.Pre κs a
take_line_takes κs a = tt

read_frame_takes : (κs : _) (a : _) → read-frame.Pre κs a
read_frame_takes κs a = tt

write_bytes_takes : (κs : _) (a : _) → write_bytes.Pre κs a
write_bytes_takes κs a = tt

write_outcome_takes : (κs : _) (a : _) → write-outcome.Pre κs a
write_outcome_takes κs a = tt

write_bad_line_takes : (κs : _) (a : _) → write-bad-line.Pre κs a
write_bad_line_takes κs a = tt
