-- What `montrakit_respond` promises.
-- Assumes nothing.
use Rattle.std.specs.Prelude.{◌≡◌, ◌⊎◌, List, [], ◌∷◌, ℕ, length}
use Rattle.areas.specs.declared.Area.{Area}
use Rattle.areas.specs.Words.{MeansNothing, StandFor}
use Rattle.slave.specs.declared.Station.{Station}
use Rattle.slave.specs.declared.Outcome.{Outcome}
use Rattle.slave.specs.Answer as slave
use Rattle.master.specs.Refusals.{Line, RefusedBy}
use Rattle.montrakit.specs.Meanings.{counting_byte, state_byte}
use Rattle.montrakit.specs.Results.{result, bad_argument, outcome_result}

-- the bad arguments of this face, in this order
abbrev pub bad_arguments : ℕ → ℕ → List Line
bad_arguments counting state =
    (1, MeansNothing counting_byte counting)
    ∷ (2, MeansNothing state_byte state)
    ∷ []

-- the first of them is told, and nothing changes
pub record Bad (counting state : ℕ) (image reply : List ℕ) (told : ℕ) (image_after reply_after : List ℕ) : Type 0 where
  pub number : ℕ
  pub first : RefusedBy (bad_arguments counting state) number
  pub told_as : told ≡ result bad_argument number
  pub image_kept : image_after ≡ image
  pub reply_kept : reply_after ≡ reply

-- the station with this address, and this counting and state
pub record Settings (own counting state : ℕ) (station : Station) : Type 0 where
  pub address : station.own ≡ own
  pub counts : counting_byte station.counting ≡ counting
  pub does : state_byte station.state ≡ state

-- the slave's answer, told as one number
pub record Answered (own counting state : ℕ) (words frame image reply : List ℕ) (told : ℕ) (image_after reply_after : List ℕ)
    : Type 0 where
  pub station : Station
  pub settings : Settings own counting state station
  pub areas : List Area
  pub meant : StandFor words (length image) areas
  pub outcome : Outcome
  pub answers : slave.Respond station areas frame image reply outcome image_after reply_after
  pub told_as : told ≡ outcome_result outcome

-- `words` are those of the areas; image and reply buffer are as they were lent, and as the call leaves them
abbrev pub Respond : ℕ → ℕ → ℕ → List ℕ → List ℕ → List ℕ → List ℕ → ℕ → List ℕ → List ℕ → Type 0
Respond own counting state words frame image reply told image_after reply_after =
    Bad counting state image reply told image_after reply_after
    ⊎ Answered own counting state words frame image reply told image_after reply_after
