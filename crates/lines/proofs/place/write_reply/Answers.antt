-- `write_reply` meets its contract: the bytes behind the word's place, then the word, and a line feed.
-- Assumes nothing.
use Rattle.std.proofs.Common.{arith, ◌≡◌, sym, ap, ◌∙◌, Some, List, ℕ, [], ◌∷◌, ◌++◌, ◌+◌, ◌-◌, ◌≤◌, ◌<◌, length, take, drop, append_assoc, length-append, length-drop}
use Rattle.std.proofs.lemmas.List.{drop-append-le, take-append-drop, drop_at}
use borrow.Rule.Slice.PartMut.{put_mid}
use lib.ListN.{set, length-take}
use lib.Seq.{drop-drop, length-take-le}
use Rattle.slave.specs.Answer.{over}
use Rattle.lines.specs.Hex.{spaced}
use Rattle.lines.specs.Lines.{line_feed}
use Rattle.lines.specs.Outcomes.{reply_word, as_line, Written}
use Rattle.lines.proofs.Held.{take_min}
use Rattle.lines.proofs.Behind.{over_one_more}
use Rattle.lines.proofs.place.write_reply.Goals as goal

-- what stands in a lent part, stands in the whole
over_part : (ys rest part : List ℕ) (k : ℕ) → length ys ≤ length (take k rest) → part ≡ over ys (take k rest)
    → part ++ drop k rest ≡ over ys rest
over_part ys rest part k h e =
    let m : ℕ = length ys in
    ap (λ (t : List ℕ). t ++ drop k rest) e ∙ append_assoc ys (drop m (take k rest)) (drop k rest)
    ∙ ap (λ (t : List ℕ). ys ++ t) (sym (drop-append-le m (take k rest) (drop k rest) h) ∙ ap (drop m) (take-append-drop k rest))

-- .. and a text before it
over_after : (xs ys before : List ℕ) → xs ++ over ys (drop (length xs) before) ≡ over (xs ++ ys) before
over_after xs ys before = rw (drop-drop, length-append) (sym (append_assoc xs ys (drop (length xs + length ys) before)))

text_written : (text part bytes : List ℕ) (n : ℕ) → 5 < length text
    → Written bytes (take (length text - 1 - 5) (drop 5 text)) (Some n) part
    → Written (as_line (reply_word ++ bytes)) text (Some (5 + n + 1))
    (set (reply_word ++ drop 5 (put_mid 5 (length text - 1 - 5) text part)) (5 + n) line_feed)
text_written text part bytes n room (fits, long, stands) =
    let k : ℕ = length text - 1 - 5 in
    let rest : List ℕ = drop 5 text in
    let head : List ℕ = reply_word ++ bytes in
    let size : length head ≡ 5 + n = omega (arith, long, length-append reply_word bytes) in
    let short : length (take k rest) ≡ k = omega (arith, length-take k rest, length-drop 5 text) in
    let behind : drop 5 (put_mid 5 k text part) ≡ part ++ drop k rest =
    drop_at (take 5 text) (part ++ drop k rest) 5 (length-take-le 5 text (omega arith)) in
    let whole : reply_word ++ drop 5 (put_mid 5 k text part) ≡ over head text =
    ap (λ (t : List ℕ). reply_word ++ t) (behind ∙ over_part bytes rest part k fits stands) ∙ over_after reply_word bytes text in
    let full : length (as_line head) ≡ 5 + n + 1 = omega (arith, size, length-append head (line_feed ∷ [])) in (
      omega (arith, full, fits, short, long),
      sym full,
      ap (λ (t : List ℕ). set t (5 + n) line_feed) whole ∙ (rw (← size) (over_one_more head text line_feed (omega (arith, size, fits, short, long)))),
    )

pub returns : goal.returns
returns c =
    let text = c.args.text.now in
    let reply = c.args.reply.now in
    let shown : take c.min.result reply ≡ take c.args.n reply =
    ap (λ (k : ℕ). take k reply) c.min.ensures ∙ take_min c.args.n reply in
    let written = rw shown at c.in_ok-end.ensures in
    rw c.copy_from_slice.ensures.after
    (text_written text c.write_bytes.new.text (spaced (take c.args.n reply)) c.in_ok-end.field-0 (omega arith) written)
