-- What is told: kind and number read off it, and different answers told apart.
-- Assumes nothing.
use mathlib.Core.Path.{◌≡◌, refl, sym, ap, ◌∙◌}
use mathlib.Core.Logic.{◌≢◌}
use Prim.Native.Nat.{ℕ, ◌≤◌}
use native.Mathlib.Omega.{arith}
use Rattle.frames.specs.declared.Code.{Code}
use Rattle.frames.specs.Exceptions.{code_number}
use Rattle.frames.proofs.Laws as frames-laws
use Rattle.slave.specs.declared.Refusal.{Refusal}
use Rattle.slave.specs.declared.Silence.{Silence}
use Rattle.slave.specs.declared.Outcome.{Outcome}
use Rattle.slave.specs.Numbers as slave
use Rattle.slave.specs.Answer.{to_send}
use Rattle.slave.proofs.Laws as slave-laws
use Rattle.master.specs.declared.Refusal as Unread
use Rattle.std.specs.Prelude.{Result, Ok, Err}
use Rattle.master.specs.declared.Refusal.{Refusal as Unread}
use Rattle.master.specs.declared.Reading.{Reading}
use Rattle.master.specs.Refusals as master
use Rattle.master.proofs.Laws as master-laws
use Rattle.montrakit.specs.Results.{result, kind_in, number_in, most_number, outcome_result, built_result, reading_result, bytes_built, bytes_read}

pub kind_and_number : (kind number : ℕ) → number ≤ most_number
    → (kind_in (result kind number) ≡ kind) × (number_in (result kind number) ≡ number)
kind_and_number kind number fits = (omega arith, omega arith)

-- ---- two answers with one result

same_number : (kind m n : ℕ) → result kind m ≡ result kind n → m ≡ n
same_number kind m n e = omega (arith, e)

-- with different kinds there are none
apart : (k l m n : ℕ) → m ≤ most_number → n ≤ most_number → k ≢ l → result k m ≡ result l n → ⊥
apart k l m n small-m small_n other e =
    other (sym (kind_and_number k m small-m).0 ∙ ap kind_in e ∙ (kind_and_number l n small_n).0)

-- the paper's numbers are small
pub refusal_small : (why : Refusal) → slave.refusal_number why ≤ most_number
refusal_small Refusal.OwnAddress = omega arith
refusal_small Refusal.Image = omega arith
refusal_small Refusal.Areas = omega arith
refusal_small Refusal.ReplyBuffer = omega arith

pub silence_small : (why : Silence) → slave.silence_number why ≤ most_number
silence_small Silence.FrameLength = omega arith
silence_small Silence.CheckWord = omega arith
silence_small Silence.AnotherStation = omega arith
silence_small Silence.AtTheKeyboard = omega arith
silence_small Silence.RequestLength = omega arith
silence_small Silence.NoQuantity = omega arith

pub code_small : (code : Code) → code_number code ≤ most_number
code_small Code.Function = omega arith
code_small Code.Address = omega arith
code_small Code.Value = omega arith
code_small Code.NotReady = omega arith
code_small Code.ReadOnly = omega arith

unread_small : (why : Unread.Refusal) → master.refusal_number why ≤ most_number
unread_small Unread.TheVariants.Request = omega arith
unread_small Unread.TheVariants.CheckWord = omega arith
unread_small Unread.TheVariants.Reply = omega arith

pub outcomes_apart : (a b : Outcome) → to_send a ≤ most_number → to_send b ≤ most_number → outcome_result a ≡ outcome_result b → a ≡ b
outcomes_apart (Outcome.Refused a) (Outcome.Refused b) small-a small_b e = ap Outcome.Refused (slave-laws.RefusalsApart a b (same_number 0 _ _ e))
outcomes_apart (Outcome.Refused a) (Outcome.Silent b) small-a small_b e = absurd (apart 0 1 _ _ (refusal_small a) (silence_small b) (λ h. omega (arith, h)) e)
outcomes_apart (Outcome.Refused a) (Outcome.Exception b) small-a small_b e = absurd (apart 0 2 _ _ (refusal_small a) (code_small b) (λ h. omega (arith, h)) e)
outcomes_apart (Outcome.Refused a) (Outcome.Reply b) small-a small_b e = absurd (apart 0 3 _ _ (refusal_small a) small_b (λ h. omega (arith, h)) e)
outcomes_apart (Outcome.Silent a) (Outcome.Refused b) small-a small_b e = absurd (apart 1 0 _ _ (silence_small a) (refusal_small b) (λ h. omega (arith, h)) e)
outcomes_apart (Outcome.Silent a) (Outcome.Silent b) small-a small_b e = ap Outcome.Silent (slave-laws.SilencesApart a b (same_number 1 _ _ e))
outcomes_apart (Outcome.Silent a) (Outcome.Exception b) small-a small_b e = absurd (apart 1 2 _ _ (silence_small a) (code_small b) (λ h. omega (arith, h)) e)
outcomes_apart (Outcome.Silent a) (Outcome.Reply b) small-a small_b e = absurd (apart 1 3 _ _ (silence_small a) small_b (λ h. omega (arith, h)) e)
outcomes_apart (Outcome.Exception a) (Outcome.Refused b) small-a small_b e = absurd (apart 2 0 _ _ (code_small a) (refusal_small b) (λ h. omega (arith, h)) e)
outcomes_apart (Outcome.Exception a) (Outcome.Silent b) small-a small_b e = absurd (apart 2 1 _ _ (code_small a) (silence_small b) (λ h. omega (arith, h)) e)
outcomes_apart (Outcome.Exception a) (Outcome.Exception b) small-a small_b e = ap Outcome.Exception (frames-laws.CodesApart a b (same_number 2 _ _ e))
outcomes_apart (Outcome.Exception a) (Outcome.Reply b) small-a small_b e = absurd (apart 2 3 _ _ (code_small a) small_b (λ h. omega (arith, h)) e)
outcomes_apart (Outcome.Reply a) (Outcome.Refused b) small-a small_b e = absurd (apart 3 0 _ _ small-a (refusal_small b) (λ h. omega (arith, h)) e)
outcomes_apart (Outcome.Reply a) (Outcome.Silent b) small-a small_b e = absurd (apart 3 1 _ _ small-a (silence_small b) (λ h. omega (arith, h)) e)
outcomes_apart (Outcome.Reply a) (Outcome.Exception b) small-a small_b e = absurd (apart 3 2 _ _ small-a (code_small b) (λ h. omega (arith, h)) e)
outcomes_apart (Outcome.Reply a) (Outcome.Reply b) small-a small_b e = ap Outcome.Reply (same_number 3 _ _ e)

pub built_apart : (a b : Result ℕ Unread) → bytes_built a ≤ most_number → bytes_built b ≤ most_number → built_result a ≡ built_result b → a ≡ b
built_apart (Err a) (Err b) small-a small_b e = ap Err (master-laws.RefusalsApart a b (same_number 0 _ _ e))
built_apart (Err a) (Ok b) small-a small_b e = absurd (apart 0 5 _ _ (unread_small a) small_b (λ h. omega (arith, h)) e)
built_apart (Ok a) (Err b) small-a small_b e = absurd (apart 5 0 _ _ small-a (unread_small b) (λ h. omega (arith, h)) e)
built_apart (Ok a) (Ok b) small-a small_b e = ap Ok (same_number 5 _ _ e)

pub readings_apart : (a b : Result Reading Unread) → bytes_read a ≤ most_number → bytes_read b ≤ most_number → reading_result a ≡ reading_result b → a ≡ b
readings_apart (Err a) (Err b) small-a small_b e = ap Err (master-laws.RefusalsApart a b (same_number 0 _ _ e))
readings_apart (Err a) (Ok (Reading.Data b)) small-a small_b e = absurd (apart 0 6 _ _ (unread_small a) small_b (λ h. omega (arith, h)) e)
readings_apart (Err a) (Ok Reading.Written) small-a small_b e = absurd (apart 0 7 _ 0 (unread_small a) (omega arith) (λ h. omega (arith, h)) e)
readings_apart (Err a) (Ok (Reading.Exception b)) small-a small_b e = absurd (apart 0 2 _ _ (unread_small a) (code_small b) (λ h. omega (arith, h)) e)
readings_apart (Ok (Reading.Data a)) (Err b) small-a small_b e = absurd (apart 6 0 _ _ small-a (unread_small b) (λ h. omega (arith, h)) e)
readings_apart (Ok (Reading.Data a)) (Ok (Reading.Data b)) small-a small_b e = ap (λ n. Ok (Reading.Data n)) (same_number 6 _ _ e)
readings_apart (Ok (Reading.Data a)) (Ok Reading.Written) small-a small_b e = absurd (apart 6 7 _ 0 small-a (omega arith) (λ h. omega (arith, h)) e)
readings_apart (Ok (Reading.Data a)) (Ok (Reading.Exception b)) small-a small_b e = absurd (apart 6 2 _ _ small-a (code_small b) (λ h. omega (arith, h)) e)
readings_apart (Ok Reading.Written) (Err b) small-a small_b e = absurd (apart 7 0 0 _ (omega arith) (unread_small b) (λ h. omega (arith, h)) e)
readings_apart (Ok Reading.Written) (Ok (Reading.Data b)) small-a small_b e = absurd (apart 7 6 0 _ (omega arith) small_b (λ h. omega (arith, h)) e)
readings_apart (Ok Reading.Written) (Ok Reading.Written) small-a small_b e = refl
readings_apart (Ok Reading.Written) (Ok (Reading.Exception b)) small-a small_b e = absurd (apart 7 2 0 _ (omega arith) (code_small b) (λ h. omega (arith, h)) e)
readings_apart (Ok (Reading.Exception a)) (Err b) small-a small_b e = absurd (apart 2 0 _ _ (code_small a) (unread_small b) (λ h. omega (arith, h)) e)
readings_apart (Ok (Reading.Exception a)) (Ok (Reading.Data b)) small-a small_b e = absurd (apart 2 6 _ _ (code_small a) small_b (λ h. omega (arith, h)) e)
readings_apart (Ok (Reading.Exception a)) (Ok Reading.Written) small-a small_b e = absurd (apart 2 7 _ 0 (code_small a) (omega arith) (λ h. omega (arith, h)) e)
readings_apart (Ok (Reading.Exception a)) (Ok (Reading.Exception b)) small-a small_b e = ap (λ code. Ok (Reading.Exception code)) (frames-laws.CodesApart a b (same_number 2 _ _ e))
