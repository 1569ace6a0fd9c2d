-- For the contracts of private functions alone; no public promise cites it: what a byte names, and the numbers of kinds and arguments.
-- Assumes nothing.
use Rattle.std.specs.Prelude.{◌≡◌, Option, Some, None, ℕ}
use Rattle.areas.specs.Words.{MeansNothing}
use Rattle.slave.specs.declared.Counting.{Counting}
use Rattle.slave.specs.declared.State.{State}
use Rattle.master.specs.declared.Function.{Function}
use Rattle.master.specs.declared.Request.{Request}
use Rattle.master.specs.Requests.{function_number}
use Rattle.montrakit.specs.declared.telling.Kind.{Kind}
use Rattle.montrakit.specs.declared.telling.BadArgument.{BadArgument}
use Rattle.montrakit.specs.Meanings.{counting_byte, state_byte}
use Rattle.montrakit.specs.Mastering.{request_of}
use Rattle.montrakit.specs.Results.{refused, silent, exception, reply, bad_argument, built, values, written}

abbrev pub CountingIs : ℕ → Option Counting → Type 0
CountingIs byte (Some counting) = counting_byte counting ≡ byte
CountingIs byte None = MeansNothing counting_byte byte

abbrev pub StateIs : ℕ → Option State → Type 0
StateIs byte (Some state) = state_byte state ≡ byte
StateIs byte None = MeansNothing state_byte byte

-- the request with these fields, of the function with this number, or that there is none
abbrev pub RequestIs : ℕ → ℕ → ℕ → ℕ → Option Request → Type 0
RequestIs station number start value (Some request) =
    (function : Function) × (function_number function ≡ number) × (request ≡ request_of station function start value)
RequestIs station number start value None = MeansNothing function_number number

abbrev pub kind_number : Kind → ℕ
kind_number Kind.Refused = refused
kind_number Kind.Silent = silent
kind_number Kind.Exception = exception
kind_number Kind.Reply = reply
kind_number Kind.BadArgument = bad_argument
kind_number Kind.Built = built
kind_number Kind.Values = values
kind_number Kind.Written = written

abbrev pub argument_number : BadArgument → ℕ
argument_number BadArgument.Counting = 1
argument_number BadArgument.State = 2
