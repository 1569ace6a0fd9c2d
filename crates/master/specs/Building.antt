-- Building a request.
-- Assumes nothing.
use Rattle.std.specs.Prelude.{◌≡◌, ◌⊎◌, ◌≢◌, List, [], ◌∷◌, ◌++◌, Result, Ok, Err, ℕ, length, drop}
use Rattle.check_word.specs.Frame.{framed}
use Rattle.registers.specs.Packing.{packed_bit, packed_word, BitsPacked, WordsPacked}
use Rattle.frames.specs.declared.Act.{Act}
use Rattle.frames.specs.declared.Act.TheVariants.{Read, WriteOne, WriteRun}
use Rattle.frames.specs.declared.Width.{Width}
use Rattle.frames.specs.declared.Width.TheVariants.{Bit, Word}
use Rattle.frames.specs.Limits.{bytes_for}
use Rattle.master.specs.declared.Request.{Request}
use Rattle.master.specs.declared.Refusal.{Refusal}
use Rattle.master.specs.Requests.{act, width, data_size, request_head}
use Rattle.master.specs.Refusals.{refusal_number, Line, RefusedBy, NotRefused, FieldsRefused}

-- 70: quantity or bit value out of limits, data not of the quantity's size, station 0, or a lent buffer under 256 bytes
abbrev pub building_lines : Request → List ℕ → ℕ → List Line
building_lines request carried room =
    (70, (length carried ≢ data_size request) ⊎ FieldsRefused request room) ∷ []

-- the bits or words of the data, packed; spare bits are built as 0, whatever stands there (registers, `Packing`)
abbrev pub PackedAgain : Width → ℕ → List ℕ → List ℕ → Type 0
PackedAgain Bit count carried = BitsPacked count (packed_bit carried)
PackedAgain Word count carried = WordsPacked count (packed_word carried)

-- what stands between the head and the check word: nothing, or the byte count and the data
abbrev pub Following : Act → Width → ℕ → List ℕ → List ℕ → Type 0
Following Read width operand carried rest = rest ≡ []
Following WriteOne width operand carried rest = rest ≡ []
Following WriteRun width operand carried rest =
    (packed : List ℕ) × PackedAgain width operand carried packed × (rest ≡ bytes_for width operand ∷ packed)

-- the bytes of the request
pub record RequestFrame (request : Request) (carried bytes : List ℕ) : Type 0 where
  pub rest : List ℕ
  pub following : Following (act request) (width request) request.operand carried rest
  pub are : bytes ≡ framed (request_head request ++ rest)

-- bytes written over the start of a buffer: those beyond stay
abbrev pub over : List ℕ → List ℕ → List ℕ
over bytes buffer = bytes ++ drop (length bytes) buffer

-- they are written, and their number is told
pub record RequestPut (request : Request) (carried before : List ℕ) (n : ℕ) (after : List ℕ) : Type 0 where
  pub bytes : List ℕ
  pub are_the_request : RequestFrame request carried bytes
  pub told : n ≡ length bytes
  pub written : after ≡ over bytes before

-- what `build` promises; `before` is the lent buffer, and `after` what the call leaves in it
abbrev pub Build : Request → List ℕ → List ℕ → Result ℕ Refusal → List ℕ → Type 0
Build request carried before (Err why) after =
    RefusedBy (building_lines request carried (length before)) (refusal_number why) × (after ≡ before)
Build request carried before (Ok n) after =
    NotRefused (building_lines request carried (length before)) × RequestPut request carried before n after
