-- The laws of the bench, each proved under its name in proofs/Laws.antt.
-- Assumes nothing.
use Rattle.std.specs.Prelude.{List, ◌++◌, ℕ}
use Rattle.promise.specs.Promise.{Determined}
use Rattle.bench.specs.Bench.{Answered}
use Rattle.bench.specs.Input.{Cut, AllAnswered}
use Rattle.bench.specs.Blocks.{Passed}

-- an input has its lines in one way
abbrev pub CutDetermined : Type 0
CutDetermined = (input : List ℕ) → Determined (λ (a : List (List ℕ) × List ℕ). Cut input a.0 a.1)

-- a line has one answer, and leaves the registers in one way
abbrev pub AnsweredDetermined : Type 0
AnsweredDetermined = (line image : List ℕ) → Determined (λ (a : List ℕ × List ℕ). Answered line image a.0 a.1)

-- .. and so have the lines of an input
abbrev pub AllAnsweredDetermined : Type 0
AllAnsweredDetermined =
    (lines : List (List ℕ)) (image : List ℕ) → Determined (λ (a : List ℕ × List ℕ). AllAnswered lines image a.0 a.1)

-- what came in two blocks, one after the other, has passed as if it had come in one
abbrev pub InBlocks : Type 0
InBlocks = (a b buffer buffer₁ buffer₂ image image₁ image₂ one two : List ℕ) (held held₁ held₂ : ℕ)
    → Passed a buffer held image buffer₁ held₁ image₁ one → Passed b buffer₁ held₁ image₁ buffer₂ held₂ image₂ two
    → Passed (a ++ b) buffer held image buffer₂ held₂ image₂ (one ++ two)
