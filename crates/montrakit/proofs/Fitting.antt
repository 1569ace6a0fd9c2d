-- What is told with a kind is below 65,536.
-- Assumes nothing.
use mathlib.Core.Path.{refl}
use mathlib.Core.List.{List}
use Prim.Native.Nat.{ℕ, ◌≤◌, ◌<◌}
use native.Mathlib.Omega.{arith}
use Rattle.areas.specs.declared.Area.{Area}
use Rattle.frames.specs.Fields.{byte}
use Rattle.slave.specs.declared.Station.{Station}
use Rattle.slave.specs.declared.Outcome.{Outcome}
use Rattle.slave.specs.Answer.{to_send}
use Rattle.slave.specs.Answer as slave
use Rattle.slave.proofs.Laws as slave-laws
use Rattle.master.specs.declared.Request.{Request}
use Rattle.std.specs.Prelude.{Result, Ok, Err}
use Rattle.master.specs.declared.Refusal.{Refusal}
use Rattle.master.specs.declared.Reading.{Reading}
use Rattle.master.specs.Building as building
use Rattle.master.specs.Reading as reading
use Rattle.master.proofs.Laws as master-laws
use Rattle.montrakit.specs.Results.{most_number, bytes_built, bytes_read}

pub outcome_fits : (station : Station) (areas : List Area) (frame image reply : List ℕ) (outcome : Outcome)
    (image_after reply_after : List ℕ) → slave.Respond station areas frame image reply outcome image_after reply_after
    → to_send outcome ≤ most_number
outcome_fits station areas frame image reply (Outcome.Refused why) image_after reply_after answers = omega arith
outcome_fits station areas frame image reply (Outcome.Silent why) image_after reply_after answers = omega arith
outcome_fits station areas frame image reply (Outcome.Exception code) image_after reply_after answers = omega arith
outcome_fits station areas frame image reply (Outcome.Reply n) image_after reply_after answers =
    omega (arith, (slave-laws.ReplyLength _ _ answers n refl).2)

pub built_fits : (request : Request) (carried before : List ℕ) (built : Result ℕ Refusal) (after : List ℕ)
    → building.Build request carried before built after → bytes_built built ≤ most_number
built_fits request carried before (Err why) after builds = omega arith
built_fits request carried before (Ok n) after builds =
    omega (arith, (master-laws.BuiltFrames request carried before n after builds).most)

-- (what is read has the byte count of the reply)
pub reading_fits : (request : Request) (reply before : List ℕ) (read : Result Reading Refusal) (after : List ℕ) → byte reply 2 < 256
    → reading.ReadReply request reply before read after → bytes_read read ≤ most_number
reading_fits request reply before (Err why) after small reads = omega arith
reading_fits request reply before (Ok (Reading.Data n)) after small reads = omega (arith, small, reads.told.1.byte_count)
reading_fits request reply before (Ok Reading.Written) after small reads = omega arith
reading_fits request reply before (Ok (Reading.Exception code)) after small reads = omega arith
