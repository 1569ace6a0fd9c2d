-- What is answered, as one number: kind × 65,536 + number.
-- Assumes nothing.
use Rattle.std.specs.Prelude.{Result, Ok, Err, ℕ, ◌+◌, ◌*◌, ◌/◌, ◌%◌}
use Rattle.frames.specs.Exceptions.{code_number}
use Rattle.slave.specs.declared.Outcome.{Outcome}
use Rattle.slave.specs.Numbers as slave
use Rattle.master.specs.declared.Reading.{Reading}
use Rattle.master.specs.declared.Refusal.{Refusal}
use Rattle.master.specs.Refusals as master

abbrev pub result : ℕ → ℕ → ℕ
result kind number = kind * 65536 + number

-- and back: the kind and the number that a result has
abbrev pub kind_in : ℕ → ℕ
kind_in told = told / 65536

abbrev pub number_in : ℕ → ℕ
number_in told = told % 65536

-- the largest number that goes beside a kind
abbrev pub most_number : ℕ
most_number = 65535

-- ---- the kinds

abbrev pub refused : ℕ
refused = 0

abbrev pub silent : ℕ
silent = 1

abbrev pub exception : ℕ
exception = 2

abbrev pub reply : ℕ
reply = 3

-- of this face alone
abbrev pub bad_argument : ℕ
bad_argument = 4

abbrev pub built : ℕ
built = 5

abbrev pub values : ℕ
values = 6

abbrev pub written : ℕ
written = 7

-- ---- the slave's answer: the paper's number, or the reply's length

abbrev pub outcome_result : Outcome → ℕ
outcome_result (Outcome.Refused why) = result refused (slave.refusal_number why)
outcome_result (Outcome.Silent why) = result silent (slave.silence_number why)
outcome_result (Outcome.Exception code) = result exception (code_number code)
outcome_result (Outcome.Reply n) = result reply n

-- ---- the master's: the paper's number, or how many bytes were built or read

abbrev pub built_result : Result ℕ Refusal → ℕ
built_result (Err why) = result refused (master.refusal_number why)
built_result (Ok n) = result built n

abbrev pub reading_result : Result Reading Refusal → ℕ
reading_result (Err why) = result refused (master.refusal_number why)
reading_result (Ok (Reading.Data n)) = result values n
reading_result (Ok Reading.Written) = result written 0
reading_result (Ok (Reading.Exception code)) = result exception (code_number code)

-- an unknown function number is refusal 70
abbrev pub unknown_function : ℕ
unknown_function = result refused (master.refusal_number Refusal.Request)

-- how many bytes these two speak of (those of an outcome: `to_send` of slave, `Answer`)
abbrev pub bytes_built : Result ℕ Refusal → ℕ
bytes_built (Err why) = 0
bytes_built (Ok n) = n

abbrev pub bytes_read : Result Reading Refusal → ℕ
bytes_read (Err why) = 0
bytes_read (Ok (Reading.Data n)) = n
bytes_read (Ok Reading.Written) = 0
bytes_read (Ok (Reading.Exception code)) = 0
