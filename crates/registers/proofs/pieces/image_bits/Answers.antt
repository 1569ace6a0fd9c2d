-- `image_bits` meets its contract: two words of the image show 32 of its bits, and a part of them is taken.
-- Assumes nothing.
use Rattle.std.proofs.Common.{arith, rules, ap, ◌≡◌, List, ℕ, ◌+◌, ◌*◌, ◌/◌, ◌%◌, ◌^◌, ◌≤◌, get_or}
use Rattle.registers.specs.Memory.{word_bits, FitIn, image_bit, from}
use Rattle.registers.specs.Pieces.{Shows}
use Rattle.registers.proofs.Shows.{shows_run, shows_number, shows_next, shows_part}
use Rattle.registers.proofs.pieces.image_bits.Goals as goal

two_words : (image : List ℕ) (first ahead width next high : ℕ) → FitIn word_bits image → width ≤ word_bits
    → next ≡ get_or image (first / 16 + ahead + 1) 0 → high ≡ 2 ^ width
    → Shows width (from (ahead * word_bits) (from first (image_bit image)))
    ((next * 65536 + get_or image (first / 16 + ahead) 0) / 2 ^ (first % 16) % high)
two_words image first ahead width next high fit hw en eh =
    let k = first / 16 + ahead in
    let place = first % 16 in
    rw (eh, en)
    (shows_run
    (shows_part 32 place width (k * 16) (image_bit image) (get_or image (k + 1) 0 * 65536 + get_or image k 0) (omega arith)
    (shows_next 16 image k 1 (get_or image k 0) (fit (k + 1)) (shows_number 16 image k (fit k))))
    (λ p h. ap (image_bit image) (omega arith)))

pub returns : goal.returns
returns c =
    two_words c.args.image.now c.args.first c.args.ahead c.args.width c.unwrap_or-next.result c.power_of_two.result
    (λ i. (c.type_inv.image i).fits) (omega arith) (search rules) c.power_of_two.ensures
