-- `answer_frame` meets its contract: the slave's answer is written, and has room.
-- Assumes nothing.
use Rattle.std.proofs.Common.{refl, arith}
use Rattle.bench.proofs.Fits.{answer_fits}
use Rattle.bench.proofs.Standing.{is_written, written_stands}
use Rattle.bench.proofs.answer.answer_frame.Goals as goal

pub unwrap-requires : goal.unwrap-requires
unwrap-requires c =
    let allowed = rw c.two_areas.ensures at c.respond-outcome.ensures in
    let fits = answer_fits _ _ allowed in
    is_written _ _ _ _ c.write_outcome.ensures (omega (arith, fits, c.requires))

pub returns : goal.returns
returns c =
    let allowed = rw c.two_areas.ensures at c.respond-outcome.ensures in
    written_stands _ _ _ _ _ _ c.write_outcome.ensures c.unwrap.ensures
    (record { answer = _; allowed = allowed; registers = refl; written = refl })
