-- The laws of lines, each proved under its name in proofs/Laws.antt.
-- Assumes nothing.
use Rattle.std.specs.Prelude.{◌≡◌, Option, List, ◌++◌, ℕ, ◌<◌, ◌≤◌, length}
use Rattle.promise.specs.Promise.{Determined}
use Rattle.check_word.specs.Frame.{Bytes}
use Rattle.lines.specs.declared.Taken.{Taken}
use Rattle.lines.specs.Hex.{line_of, most_bytes, longest_line, Says, ReadFrame}
use Rattle.slave.specs.Answer.{over}
use Rattle.lines.specs.Lines.{up_to_feed, heldThen, TakeLine}
use Rattle.lines.specs.Outcomes.{Written}

-- a line says one frame
abbrev pub OneFrame : Type 0
OneFrame = (line : List ℕ) → Determined (Says line)

-- what is written for bytes is read as these bytes
abbrev pub ReadBack : Type 0
ReadBack = (bytes : List ℕ) → Bytes bytes → length bytes ≤ most_bytes → Says (line_of bytes) bytes

-- a line of over 899 characters says no frame
abbrev pub LongLine : Type 0
LongLine = (line bytes : List ℕ) → longest_line < length line → Says line bytes → ⊥

-- A line in two blocks, the first without a line feed: what is held of the one, and then of the other, is what would be held of
-- both at once.
abbrev pub InTwoBlocks : Type 0
InTwoBlocks = (one two buffer : List ℕ) (held : ℕ) → up_to_feed one ≡ one
    → heldThen (length (heldThen held one buffer)) two (over (heldThen held one buffer) buffer) ≡ heldThen held (one ++ two) buffer

-- the promise of each public function determines its answer, and the buffer that was lent
abbrev pub ReadFrameDetermined : Type 0
ReadFrameDetermined = (line before : List ℕ) → Determined (λ (a : Option ℕ × List ℕ). ReadFrame line before a.0 a.1)

abbrev pub TakeLineDetermined : Type 0
TakeLineDetermined =
    (block buffer : List ℕ) (held : ℕ) → Determined (λ (a : Taken × List ℕ). TakeLine block buffer held a.0 a.1)

abbrev pub WrittenDetermined : Type 0
WrittenDetermined = (text before : List ℕ) → Determined (λ (a : Option ℕ × List ℕ). Written text before a.0 a.1)
