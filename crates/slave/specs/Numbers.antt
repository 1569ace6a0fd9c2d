-- The kinds of answer, and the paper's number for each case of the enums that carry them.
-- Assumes nothing.
use Rattle.std.specs.Prelude.{ℕ}
use Rattle.frames.specs.Exceptions.{code_number}
use Rattle.slave.specs.declared.Refusal.{Refusal}
use Rattle.slave.specs.declared.Refusal.TheVariants.{OwnAddress, Image, Areas, ReplyBuffer}
use Rattle.slave.specs.declared.Silence.{Silence}
use Rattle.slave.specs.declared.Silence.TheVariants.{FrameLength, CheckWord, AnotherStation, AtTheKeyboard, RequestLength, NoQuantity}
use Rattle.slave.specs.declared.Outcome.{Outcome}
use Rattle.slave.specs.declared.Outcome.TheVariants.{Refused, Silent, Exception, Reply}

-- call refused, silence or exception, with its number; or the request is accepted (the reply's length: `told` of `Done`)
pub data Kind : Type 0 where
  refused : ℕ → Kind
  silence : ℕ → Kind
  exception : ℕ → Kind
  accepted : Kind

abbrev pub refusal_number : Refusal → ℕ
refusal_number OwnAddress = 1
refusal_number Image = 2
refusal_number Areas = 3
refusal_number ReplyBuffer = 4

abbrev pub silence_number : Silence → ℕ
silence_number FrameLength = 10
silence_number CheckWord = 11
silence_number AnotherStation = 12
silence_number AtTheKeyboard = 13
silence_number RequestLength = 14
silence_number NoQuantity = 15

abbrev pub kind_of : Outcome → Kind
kind_of (Refused why) = refused (refusal_number why)
kind_of (Silent why) = silence (silence_number why)
kind_of (Exception code) = exception (code_number code)
kind_of (Reply length) = accepted
