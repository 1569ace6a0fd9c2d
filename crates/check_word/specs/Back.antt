-- For the contract of private functions alone; no public promise cites it: steps undone.
-- Assumes nothing.
use Rattle.std.specs.Prelude.{Bool, true, false, ℕ, zero, suc, ◌+◌, ◌*◌, leb}
use Rattle.std.specs.Int.Bits.{bit_xor}
use Rattle.check_word.specs.CheckWord.{polynomial}

-- shift left by one; a corrected word loses its correction first, and gets back the 1 that was shifted out
abbrev pub uncorrected : Bool → ℕ → ℕ
uncorrected true w = bit_xor w polynomial * 2 + 1
uncorrected false w = w * 2

-- one step undone: a word was corrected where its top bit is 1
abbrev pub step_back : ℕ → ℕ
step_back w = uncorrected (leb 0x8000 w) w

-- n steps undone
abbrev pub steps_back : ℕ → ℕ → ℕ
steps_back zero w = w
steps_back (suc n) w = steps_back n (step_back w)
