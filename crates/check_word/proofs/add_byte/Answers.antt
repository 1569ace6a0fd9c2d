-- `add_byte` meets its contract: eight steps put the low byte, with the new one, through the table and move the high byte down.
-- Assumes nothing.
use Rattle.std.proofs.Common.{◌≡◌, ℕ, ◌/◌, ◌%◌, sym, ap, ◌∙◌}
use lib.Bits.{bit_xor}
use Rattle.check_word.specs.CheckWord.{steps, add_byte}
use Rattle.check_word.proofs.Step.{steps_mixed}
use Rattle.check_word.proofs.Back.{steps_steps_back}
use Rattle.check_word.proofs.add_byte.Goals as goal

pub returns : goal.returns
unfolding add_byte
returns c =
    let word = c.args.word in
    let mixed = bit_xor (word % 256) c.args.byte in
    let found : c.entry.result ≡ steps 8 mixed = sym (steps_steps_back 8 c.entry.result) ∙ ap (steps 8) c.entry.ensures in
    ap (λ (x : ℕ). bit_xor x (word / 256)) found ∙ sym (steps_mixed 8 word c.args.byte)
