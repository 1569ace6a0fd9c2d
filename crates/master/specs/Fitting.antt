-- For the contracts of private functions alone; no public promise cites it. What is found of a reply whose check word is right.
-- Assumes nothing.
use Rattle.std.specs.Prelude.{◌≡◌, List, Result, Ok, Err, ℕ, ◌+◌, ◌≤◌}
use Rattle.frames.specs.Fields.{station_field, function_field}
use Rattle.master.specs.declared.Request.{Request}
use Rattle.master.specs.declared.Refusal.{Refusal}
use Rattle.master.specs.declared.Refusal.TheVariants.{Reply}
use Rattle.master.specs.declared.Reading.{Reading}
use Rattle.master.specs.declared.Reading.TheVariants.{Data, Written, Exception}
use Rattle.master.specs.Reading.{Fits, NothingFits}

-- what fits, or that nothing does
abbrev pub FitFound : Request → List ℕ → Result Reading Refusal → Type 0
FitFound request reply (Err why) = (why ≡ Reply) × NothingFits request reply
FitFound request reply (Ok reading) = Fits request reply reading

-- the reply starts with this station and this function
abbrev pub HeadIs : ℕ → ℕ → List ℕ → Type 0
HeadIs station function reply = (station_field reply ≡ station) × (function_field reply ≡ function)

-- the data that were read lie in a reply of so many bytes, and there is room for them
abbrev pub Takeable : ℕ → ℕ → Reading → Type 0
Takeable long room (Data n) = (3 + n ≤ long) × (n ≤ room)
Takeable long room Written = Unit
Takeable long room (Exception code) = Unit
