-- Each refusal, each silence, and each outcome that is no reply, from its number.
-- Assumes nothing.
use mathlib.Core.Path.{◌≡◌, refl, sym, ap, ◌∙◌}
use mathlib.Core.List.{[], ◌∷◌}
use Prim.Native.Nat.{ℕ, ◌-◌, ◌<◌}
use native.Mathlib.Omega.{arith}
use lib.ListN.{get_or}
use Rattle.frames.proofs.Codes.{code_of, code_back}
use Rattle.slave.specs.declared.Refusal.{Refusal}
use Rattle.slave.specs.declared.Refusal.TheVariants.{OwnAddress, Image, Areas, ReplyBuffer}
use Rattle.slave.specs.declared.Silence.{Silence}
use Rattle.slave.specs.declared.Silence.TheVariants.{FrameLength, CheckWord, AnotherStation, AtTheKeyboard, RequestLength, NoQuantity}
use Rattle.slave.specs.declared.Outcome.{Outcome}
use Rattle.slave.specs.declared.Outcome.TheVariants.{Refused, Silent, Exception, Reply}
use Rattle.slave.specs.Numbers.{Kind, refused, silence, exception, accepted, refusal_number, silence_number, kind_of}
use Rattle.slave.proofs.Cases.{kind_place}

abbrev pub refusal_of : ℕ → Refusal
refusal_of number = get_or (OwnAddress ∷ Image ∷ Areas ∷ ReplyBuffer ∷ []) (number - 1) OwnAddress

pub refusal_back : (why : Refusal) → refusal_of (refusal_number why) ≡ why
refusal_back OwnAddress = refl
refusal_back Image = refl
refusal_back Areas = refl
refusal_back ReplyBuffer = refl

abbrev pub silence_of : ℕ → Silence
silence_of number =
    get_or (FrameLength ∷ CheckWord ∷ AnotherStation ∷ AtTheKeyboard ∷ RequestLength ∷ NoQuantity ∷ []) (number - 10) FrameLength

pub silence_back : (why : Silence) → silence_of (silence_number why) ≡ why
silence_back FrameLength = refl
silence_back CheckWord = refl
silence_back AnotherStation = refl
silence_back AtTheKeyboard = refl
silence_back RequestLength = refl
silence_back NoQuantity = refl

abbrev outcome_of : Kind → Outcome
outcome_of (refused n) = Refused (refusal_of n)
outcome_of (silence n) = Silent (silence_of n)
outcome_of (exception n) = Exception (code_of n)
outcome_of accepted = Reply 0

outcome_back : (outcome : Outcome) → kind_place (kind_of outcome) < 3 → outcome_of (kind_of outcome) ≡ outcome
outcome_back (Refused why) other = ap Refused (refusal_back why)
outcome_back (Silent why) other = ap Silent (silence_back why)
outcome_back (Exception code) other = ap Exception (code_back code)
outcome_back (Reply n) other = absurd (omega arith)

pub same_told : (a b : Outcome) → kind_place (kind_of a) < 3 → kind_of a ≡ kind_of b → a ≡ b
same_told a b other e = sym (outcome_back a other) ∙ ap outcome_of e ∙ outcome_back b (rw (← e) other)
