-- The bytes of a lent buffer have room in the text.
-- Assumes nothing.
use Rattle.std.proofs.Common.{refl, Option, Some, None, IsSome, List, ℕ, ◌≤◌, length, take, replicate, length-take, arith}
use Rattle.std.proofs.lemmas.List.{length-replicate}
use Rattle.lines.specs.Hex.{spaced}
use Rattle.lines.specs.Outcomes.{Written}
use Rattle.lines.proofs.Spaced.{length_spaced}
use Rattle.cases.specs.declared.lent.TheConstants.{TEXT_ROOM}
use Rattle.cases.proofs.lent.Lent.put.Goals as goal

is_written : (text before after : List ℕ) (said : Option ℕ) → Written text before said after → length text ≤ length before
    → IsSome said
is_written text before after (Some n) written room = refl
is_written text before after None written room = absurd (written.0 room)

pub unwrap-n-requires : goal.unwrap-n-requires
unwrap-n-requires c =
    let lent = c.args.self.now.bytes.now in
    let bytes = take c.args.written lent in
    let text = replicate {A = ℕ} TEXT_ROOM 0 in
    let size = length-replicate {A = ℕ} TEXT_ROOM 0 in
    let room : length (spaced bytes) ≤ length text =
    omega (arith, length_spaced bytes, length-take c.args.written lent, c.well_formed, size) in
    is_written (spaced bytes) text c.write_bytes.new.text _ c.write_bytes.ensures room
