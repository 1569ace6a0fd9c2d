-- What is written for an outcome: a line of text.
-- Assumes nothing.
use Rattle.std.specs.Prelude.{◌≡◌, cond, Option, Some, None, List, [], ◌∷◌, ◌++◌, ℕ, ◌+◌, ◌/◌, ◌%◌, ◌≤◌, ltb, length, take}
use Rattle.slave.specs.declared.Outcome.{Outcome}
use Rattle.slave.specs.declared.Outcome.TheVariants.{Refused, Silent, Exception, Reply}
use Rattle.slave.specs.Numbers.{refusal_number, silence_number}
use Rattle.slave.specs.Answer.{over, to_send}
use Rattle.lines.specs.Hex.{blank, spaced}
use Rattle.lines.specs.Lines.{line_feed}

-- ---- words, in ASCII

-- `reply`
abbrev pub reply_word : List ℕ
reply_word = 0x72 ∷ 0x65 ∷ 0x70 ∷ 0x6c ∷ 0x79 ∷ []

-- `silent`
abbrev pub silent_word : List ℕ
silent_word = 0x73 ∷ 0x69 ∷ 0x6c ∷ 0x65 ∷ 0x6e ∷ 0x74 ∷ []

-- `refused`
abbrev pub refused_word : List ℕ
refused_word = 0x72 ∷ 0x65 ∷ 0x66 ∷ 0x75 ∷ 0x73 ∷ 0x65 ∷ 0x64 ∷ []

-- `bad line`
abbrev pub bad_line : List ℕ
bad_line = 0x62 ∷ 0x61 ∷ 0x64 ∷ 0x20 ∷ 0x6c ∷ 0x69 ∷ 0x6e ∷ 0x65 ∷ []

-- a number below 100 in decimal, a blank before it
unfoldable pub decimal : ℕ → List ℕ
decimal n = cond (ltb n 10) (blank ∷ (48 + n % 10) ∷ []) (blank ∷ (48 + n / 10) ∷ (48 + n % 10) ∷ [])

-- ---- outcomes

-- `reply` and the bytes of the reply buffer that go onto the line, those of an exception too; or `silent` or `refused` and the
-- number
unfoldable pub outcome_text : Outcome → List ℕ → List ℕ
outcome_text (Refused why) reply = refused_word ++ decimal (refusal_number why)
outcome_text (Silent why) reply = silent_word ++ decimal (silence_number why)
outcome_text (Exception code) reply = reply_word ++ spaced (take (to_send (Exception code)) reply)
outcome_text (Reply n) reply = reply_word ++ spaced (take (to_send (Reply n)) reply)

-- a text with a line feed behind it
abbrev pub as_line : List ℕ → List ℕ
as_line text = text ++ (line_feed ∷ [])

-- What `write_bytes`, `write_outcome` and `write_bad_line` promise. Where there is room for a text, it stands in the start of the buffer, its
-- length is told, and the rest keeps its content. Where there is none, nothing changes.
abbrev pub Written : List ℕ → List ℕ → Option ℕ → List ℕ → Type 0
Written text before (Some n) after = (length text ≤ length before) × (n ≡ length text) × (after ≡ over text before)
Written text before None after = (length text ≤ length before → ⊥) × (after ≡ before)
