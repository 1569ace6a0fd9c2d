-- Lines and texts by example, the paper's among them, in one table: proofs/Examples.antt proves it. Characters are ASCII numbers.
-- Assumes nothing.
use Rattle.std.specs.Prelude.{◌≡◌, List, [], ◌∷◌, ℕ}
use Rattle.frames.specs.declared.Code.TheVariants.{ReadOnly}
use Rattle.slave.specs.declared.Outcome.TheVariants.{Refused, Silent, Exception}
use Rattle.slave.specs.declared.Refusal.TheVariants.{ReplyBuffer}
use Rattle.slave.specs.declared.Silence.TheVariants.{FrameLength, CheckWord}
use Rattle.lines.specs.Hex.{Says}
use Rattle.lines.specs.Outcomes.{outcome_text, as_line}

-- the frame of the paper's first line
abbrev pub first_frame : List ℕ
first_frame = 0x14 ∷ 0x03 ∷ 0x00 ∷ 0x01 ∷ 0x00 ∷ 0x02 ∷ 0x97 ∷ 0x0e ∷ []

-- a line that says no frame
abbrev pub SaysNone : List ℕ → Type 0
SaysNone line = (frame : List ℕ) → Says line frame → ⊥

pub record Examples : Type 0 where
  -- lines that say a frame: `14 03 00 01 00 02 97 0E` ..
  pub first_line : Says
      (0x31 ∷ 0x34 ∷ 0x20 ∷ 0x30 ∷ 0x33 ∷ 0x20 ∷ 0x30 ∷ 0x30 ∷ 0x20 ∷ 0x30 ∷ 0x31 ∷ 0x20
      ∷ 0x30 ∷ 0x30 ∷ 0x20 ∷ 0x30 ∷ 0x32 ∷ 0x20 ∷ 0x39 ∷ 0x37 ∷ 0x20 ∷ 0x30 ∷ 0x45 ∷ [])
      first_frame
  -- .. `14 03 00 01 00 02 97 0e` ..
  pub lower_case : Says
      (0x31 ∷ 0x34 ∷ 0x20 ∷ 0x30 ∷ 0x33 ∷ 0x20 ∷ 0x30 ∷ 0x30 ∷ 0x20 ∷ 0x30 ∷ 0x31 ∷ 0x20
      ∷ 0x30 ∷ 0x30 ∷ 0x20 ∷ 0x30 ∷ 0x32 ∷ 0x20 ∷ 0x39 ∷ 0x37 ∷ 0x20 ∷ 0x30 ∷ 0x65 ∷ [])
      first_frame
  -- .. and an empty line
  pub empty_line : Says [] []
  -- lines that say none: `0g` ..
  pub no_digit : SaysNone (0x30 ∷ 0x67 ∷ [])
  -- .. `1` ..
  pub one_digit : SaysNone (0x31 ∷ [])
  -- .. `143` ..
  pub three_digits : SaysNone (0x31 ∷ 0x34 ∷ 0x33 ∷ [])
  -- .. ` 14` ..
  pub blank_before : SaysNone (0x20 ∷ 0x31 ∷ 0x34 ∷ [])
  -- .. `14 ` ..
  pub blank_behind : SaysNone (0x31 ∷ 0x34 ∷ 0x20 ∷ [])
  -- .. `14  03` ..
  pub two_blanks : SaysNone (0x31 ∷ 0x34 ∷ 0x20 ∷ 0x20 ∷ 0x30 ∷ 0x33 ∷ [])
  -- .. `14`, a tab, `03` ..
  pub tab_between : SaysNone (0x31 ∷ 0x34 ∷ 0x09 ∷ 0x30 ∷ 0x33 ∷ [])
  -- .. `14`, a NUL, `03` ..
  pub nul_between : SaysNone (0x31 ∷ 0x34 ∷ 0x00 ∷ 0x30 ∷ 0x33 ∷ [])
  -- .. and `14`, a carriage return
  pub carriage_return_behind : SaysNone (0x31 ∷ 0x34 ∷ 0x0d ∷ [])
  -- texts of outcomes: `reply 14 86 08 52 62`, whatever stands behind the exception ..
  pub exception_8 : (rest : List ℕ)
      → as_line (outcome_text (Exception ReadOnly) (0x14 ∷ 0x86 ∷ 0x08 ∷ 0x52 ∷ 0x62 ∷ rest))
      ≡ 0x72 ∷ 0x65 ∷ 0x70 ∷ 0x6c ∷ 0x79
      ∷ 0x20 ∷ 0x31 ∷ 0x34 ∷ 0x20 ∷ 0x38 ∷ 0x36 ∷ 0x20 ∷ 0x30 ∷ 0x38 ∷ 0x20 ∷ 0x35 ∷ 0x32 ∷ 0x20 ∷ 0x36 ∷ 0x32 ∷ 0x0a ∷ []
  -- .. `silent 10` ..
  pub silence_10 : (reply : List ℕ)
      → as_line (outcome_text (Silent FrameLength) reply)
      ≡ 0x73 ∷ 0x69 ∷ 0x6c ∷ 0x65 ∷ 0x6e ∷ 0x74 ∷ 0x20 ∷ 0x31 ∷ 0x30 ∷ 0x0a ∷ []
  -- .. `silent 11` ..
  pub silence_11 : (reply : List ℕ)
      → as_line (outcome_text (Silent CheckWord) reply)
      ≡ 0x73 ∷ 0x69 ∷ 0x6c ∷ 0x65 ∷ 0x6e ∷ 0x74 ∷ 0x20 ∷ 0x31 ∷ 0x31 ∷ 0x0a ∷ []
  -- .. and `refused 4`
  pub refusal_4 : (reply : List ℕ)
      → as_line (outcome_text (Refused ReplyBuffer) reply)
      ≡ 0x72 ∷ 0x65 ∷ 0x66 ∷ 0x75 ∷ 0x73 ∷ 0x65 ∷ 0x64 ∷ 0x20 ∷ 0x34 ∷ 0x0a ∷ []
