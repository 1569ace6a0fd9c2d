-- `put_data` meets its contract: the data are copied, and the spare bits of the last byte turned off.
-- Assumes nothing.
use Rattle.std.proofs.Common.{arith, refl, ap, ◌∙◌, ◌≡◌, List, ◌++◌, ℕ, ◌≤◌, length, drop, length-append, length-drop, length-set, take_at, drop_at}
use Rattle.std.proofs.lemmas.List.{set-append_left}
use Rattle.registers.specs.Packing.{bytes_for_bits, bytes_for_words, Filled}
use Rattle.frames.specs.declared.Width.{Width}
use Rattle.frames.specs.declared.Width.TheVariants.{Bit, Word}
use Rattle.master.proofs.SpareBits.{spare_off, words_packed_again, bits_packed_again}
use Rattle.master.proofs.put.put_data.Goals as goal

filled_start : (n : ℕ) (Shown : List ℕ → Type 0) (start before after : List ℕ) → length start ≡ n → n ≤ length before
    → after ≡ start ++ drop n before → Shown start → Filled n Shown before after
filled_start n Shown start before after size room is shown =
    record {
      as_long = ap length is ∙ length-append start (drop n before) ∙ omega (arith, length-drop n before);
      front = rw (is, take_at start (drop n before) n size) shown;
      rest = ap (drop n) is ∙ drop_at start (drop n before) n size;
    }

pub returns-in-Bit : goal.returns-in-Bit
returns-in-Bit c =
    let count = c.args.count in
    let xs = c.args.carried.now in
    let size : length xs ≡ bytes_for_bits count = rw c.in-Bit.is at c.requires.1 in
    rw c.in-Bit.is
    (filled_start (length xs) _ (spare_off count xs) c.args.buffer.now _ (length-set xs _ _) (omega arith)
    (rw (c.copy.ensures, c.without_spare_bits.ensures)
    (set-append_left xs _ _ _ (omega (arith, size))))
    (bits_packed_again count xs (λ i. (c.type_inv.carried i).fits) size (omega arith)))

-- what is no bit is a word
is_word : (width : Width) → (width ≡ Bit → ⊥) → width ≡ Word
is_word Bit other = absurd (other refl)
is_word Word other = refl

pub returns-in_default : goal.returns-in_default
returns-in_default c =
    let xs = c.args.carried.now in
    let is = is_word c.args.width c.in_default.not-Bit in
    let size : length xs ≡ bytes_for_words c.args.count = rw is at c.requires.1 in
    rw is
    (filled_start (length xs) _ xs c.args.buffer.now _ refl (omega arith) (rw c.copy.ensures refl)
    (words_packed_again c.args.count xs (λ i. (c.type_inv.carried i).fits) size))
