-- An answer has at most 501 characters, and a frame that was read lies inside its buffer.
-- Assumes nothing.
use mathlib.Core.Path.{◌≡◌, refl, ap, ◌∙◌}
use mathlib.Core.Bool.{Bool, true, false, cond}
use mathlib.Core.List.{List, [], ◌∷◌, ◌++◌}
use Prim.Native.Nat.{ℕ, ◌+◌, ◌*◌, ◌/◌, ◌%◌, ◌≤◌}
use native.Mathlib.Omega.{arith}
use lib.Dec.{ltb}
use lib.ListN.{length, take, drop, length-append, length-take}
use lib.Seq.{take-append_seam}
use Rattle.slave.specs.declared.Outcome.{Outcome}
use Rattle.slave.specs.declared.Outcome.TheVariants.{Refused, Silent, Exception, Reply}
use Rattle.slave.specs.Numbers.{refusal_number, silence_number}
use Rattle.slave.specs.Answer.{Call, Answer, Answers}
use Rattle.slave.proofs.Laws.{ReplyLength}
use Rattle.std.proofs.Common.{Some}
use Rattle.lines.specs.Hex.{blank, spaced, Says, ReadFrame}
use Rattle.lines.specs.Lines.{line_feed}
use Rattle.lines.specs.Outcomes.{reply_word, refused_word, silent_word, decimal, outcome_text, as_line}
use Rattle.lines.proofs.Spaced.{length_spaced}
use Rattle.bench.specs.Bench.{longest_answer}

ended : (word rest : List ℕ) → length (as_line (word ++ rest)) ≡ length word + length rest + 1
ended word rest = omega (arith, length-append (word ++ rest) (line_feed ∷ []), length-append word rest)

short_number : (n : ℕ) → length (decimal n) ≤ 3
unfolding decimal
short_number n = either (ltb n 10)
  where
    either : (low : Bool) → length (cond low (blank ∷ (48 + n % 10) ∷ []) (blank ∷ (48 + n / 10) ∷ (48 + n % 10) ∷ [])) ≤ 3
    either true = omega arith
    either false = omega arith

shown : (n : ℕ) (reply : List ℕ) → length (spaced (take n reply)) ≤ 3 * n
shown n reply = omega (arith, length_spaced (take n reply), length-take n reply)

pub answer_fits : (call : Call) (answer : Answer) → Answers call answer
    → length (as_line (outcome_text answer.outcome answer.reply)) ≤ longest_answer
unfolding outcome_text
answer_fits call answer allowed = fits answer.outcome refl
  where
    fits : (outcome : Outcome) → answer.outcome ≡ outcome → length (as_line (outcome_text outcome answer.reply)) ≤ longest_answer
    fits (Refused why) e = omega (arith, ended refused_word (decimal (refusal_number why)), short_number (refusal_number why))
    fits (Silent why) e = omega (arith, ended silent_word (decimal (silence_number why)), short_number (silence_number why))
    fits (Exception code) e = omega (arith, ended reply_word (spaced (take 5 answer.reply)), shown 5 answer.reply)
    fits (Reply n) e =
        let most = (ReplyLength call answer allowed n e).2 in
        omega (arith, ended reply_word (spaced (take n answer.reply)), shown n answer.reply, most)

-- the frame that was read, in the start of its buffer
pub frame_read : (line before after : List ℕ) (n : ℕ) → length before ≡ 300 → ReadFrame line before (Some n) after
    → (n ≤ length after) × Says line (take n after)
unfolding ReadFrame
frame_read line before after n size (bytes, says, long, stands) =
    let start : take n after ≡ bytes =
    ap (λ (t : List ℕ). take n t) stands ∙ (rw long (take-append_seam bytes (drop (length bytes) before))) in
    let within : n ≤ length after =
    omega (arith, long, ap length stands, length-append bytes (drop (length bytes) before)) in
    (within, rw start says)
