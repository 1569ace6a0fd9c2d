-- `answer` meets its contract: what is read of the line is its frame.
-- Assumes nothing.
use Rattle.std.proofs.Common.{◌≡◌, ◌≤◌, refl, sym, ℕ, length, replicate, arith}
use Rattle.std.proofs.lemmas.List.{length-replicate}
use mathlib.Core.Logic.{inl, inr}
use lib.Seq.{length-take-le}
use Rattle.lines.specs.Hex.{ReadFrame}
use Rattle.lines.specs.Outcomes.{bad_line, as_line}
use Rattle.bench.specs.Bench.{Answered}
use Rattle.bench.proofs.Fits.{frame_read}
use Rattle.bench.proofs.Standing.{is_written, written_stands, stands_as}
use Rattle.bench.proofs.answer.answer.Goals as goal

zeros : length (replicate {A = ℕ} 300 0) ≡ 300
zeros = length-replicate {A = ℕ} 300 0

pub slice_bounds-frame-end : goal.slice_bounds-frame-end
slice_bounds-frame-end c = (frame_read _ _ _ _ zeros c.in-Some.ensures).0

pub slice_bounds-answer_frame-end : goal.slice_bounds-answer_frame-end
slice_bounds-answer_frame-end c = sym (length-take-le _ _ (frame_read _ _ _ _ zeros c.in-Some.ensures).0)

pub returns-in-Some : goal.returns-in-Some
unfolding Answered
returns-in-Some c =
    stands_as _ _ _ _ c.answer_frame.ensures _
    (λ text answered. inl (_, (frame_read _ _ _ _ zeros c.in-Some.ensures).1, answered))

pub unwrap-requires : goal.unwrap-requires
unwrap-requires c =
    let room : length (as_line bad_line) ≤ length c.args.text.now = omega (arith, c.requires) in
    is_written (as_line bad_line) _ _ _ c.write_bad_line.ensures room

pub returns-in-None : goal.returns-in-None
unfolding Answered ReadFrame
returns-in-None c =
    written_stands _ (as_line bad_line) _ _ _ _ c.write_bad_line.ensures c.unwrap.ensures (inr (c.in-None.ensures.0, refl, refl))
