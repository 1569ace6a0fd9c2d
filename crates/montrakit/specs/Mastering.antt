-- What `montrakit_build` and `montrakit_read` promise.
-- Assumes nothing.
use Rattle.std.specs.Prelude.{◌≡◌, ◌⊎◌, List, Result, ℕ}
use Rattle.master.specs.declared.Function.{Function}
use Rattle.master.specs.declared.Request.{Request}
use Rattle.master.specs.declared.Refusal.{Refusal}
use Rattle.master.specs.declared.Reading.{Reading}
use Rattle.master.specs.Requests.{function_number}
use Rattle.master.specs.Building as building
use Rattle.master.specs.Reading as reading
use Rattle.areas.specs.Words.{MeansNothing}
use Rattle.montrakit.specs.Results.{built_result, reading_result, unknown_function}

-- the fields of a request; `value` is the quantity, for 05 the bit value and for 06 the word
abbrev pub request_of : ℕ → Function → ℕ → ℕ → Request
request_of station function start value =
    record { station = station; function = function; start = start; operand = value }

-- The function of this number, and `Such` of it and of what is told and left. An unknown number is refusal 70, and nothing is
-- written.
abbrev pub OfNumber : ℕ → List ℕ → (Function → ℕ → List ℕ → Type 0) → ℕ → List ℕ → Type 0
OfNumber number before Such told after =
    (MeansNothing function_number number × (told ≡ unknown_function) × (after ≡ before))
    ⊎ ((function : Function) × (function_number function ≡ number) × Such function told after)

-- the master's answer, told as one number; `before` is the lent buffer, and `after` what the call leaves in it
abbrev pub Build : ℕ → ℕ → ℕ → ℕ → List ℕ → List ℕ → ℕ → List ℕ → Type 0
Build station number start value carried before = OfNumber number before
    (λ function told after.
    (built : Result ℕ Refusal) × building.Build (request_of station function start value) carried before built after
    × (told ≡ built_result built))

abbrev pub Read : ℕ → ℕ → ℕ → ℕ → List ℕ → List ℕ → ℕ → List ℕ → Type 0
Read station number start value reply before = OfNumber number before
    (λ function told after.
    (read : Result Reading Refusal) × reading.ReadReply (request_of station function start value) reply before read after
    × (told ≡ reading_result read))
