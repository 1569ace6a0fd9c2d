-- `check_word` meets its contract. The invariant is in Invariants.antt.
-- Assumes nothing.
use Rattle.std.proofs.Common.{arith, ◌≡◌, ℕ, List, ◌≤◌, ◌<◌, ◌+◌, refl, sym, ap, ◌∙◌, length, drop, get_or}
use native.Mathlib.Numerals.{add-one}
use lib.ListN.{drop_of_length-le}
use lib.Seq.{drop-cons}
use Rattle.check_word.specs.CheckWord.{add_byte, add_bytes, check_word}
use Rattle.check_word.proofs.Frame.{check_word_lt}
use Rattle.check_word.proofs.check_word.Goals as goal

one_more : (bytes : List ℕ) (word i : ℕ) → i < length bytes
    → add_bytes word (drop i bytes) ≡ add_bytes (add_byte word (get_or bytes i 0)) (drop (i + 1) bytes)
unfolding add_bytes
one_more bytes word i h = rw (add-one, drop-cons bytes i 0)

none_left : (bytes : List ℕ) (word i : ℕ) → length bytes ≤ i → add_bytes word (drop i bytes) ≡ word
unfolding add_bytes
none_left bytes word i h = rw drop_of_length-le

pub loop-byte-init : goal.loop-byte-init
unfolding check_word
loop-byte-init c = refl

pub loop-byte-preserved : goal.loop-byte-preserved
loop-byte-preserved c =
    let bytes = c.args.bytes.now in
    let at = c.loop-byte in
    ap (λ (word : ℕ). add_bytes word (drop (at.byte-index + 1) bytes)) c.add_byte-word.ensures
    ∙ sym (one_more bytes at.word at.byte-index (omega arith)) ∙ at.invariant

-- the word has sixteen bits, so its remainder is the word
pub returns : goal.returns
returns c =
    let bytes = c.args.bytes.now in
    let at = c.loop-byte in
    let whole : at.word ≡ check_word bytes = sym (none_left bytes at.word at.byte-index (omega arith)) ∙ at.invariant in
    omega (arith, check_word_lt bytes (λ k. omega (arith, c.type_inv.bytes k)))
