-- What `respond_to_words` promises.
-- Assumes nothing.
use Rattle.std.specs.Prelude.{List, ℕ, length}
use Rattle.areas.specs.declared.Area.{Area}
use Rattle.areas.specs.Words.{StandFor}
use Rattle.slave.specs.declared.Station.{Station}
use Rattle.slave.specs.declared.Outcome.{Outcome}
use Rattle.slave.specs.Answer.{Respond}

-- the answer with the areas that the words stand for
abbrev pub RespondToWords : Station → List ℕ → List ℕ → List ℕ → List ℕ → Outcome → List ℕ → List ℕ → Type 0
RespondToWords station area_words frame image reply outcome image_after reply_after =
    (areas : List Area) → StandFor area_words (length image) areas
    → Respond station areas frame image reply outcome image_after reply_after
