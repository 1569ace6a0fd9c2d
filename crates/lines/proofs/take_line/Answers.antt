-- `take_line` meets its contract: what is held behind the earlier characters is what stands before the line feed.
-- Assumes nothing.
use Rattle.std.proofs.Common.{rules, arith, ◌≡◌, sym, ap, ◌∙◌, ℕ, ◌<◌, length, take, get_or}
use Rattle.lines.specs.Lines.{line_feed, up_to_feed}
use Rattle.lines.proofs.Feed.{feed_first, feed_none, feed_taken}
use Rattle.lines.proofs.take_line.Goals as goal

pub returns-in-Some : goal.returns-in-Some
returns-in-Some c =
    let block = c.args.block.now in
    let end = c.in-Some.end in
    let inside : end < length block = search rules in
    let at : get_or block end 0 ≡ line_feed = search rules in
    let before : (k : ℕ) → k < end → get_or block k 0 ≡ line_feed → ⊥ = search rules in
    let feed = feed_first block end inside at before in
    let part : take end block ≡ up_to_feed block = ap (λ (k : ℕ). take k block) (sym feed) ∙ feed_taken block in
    let hold = c.hold.ensures in record {
      stands = rw part at hold.line_after;
      told = rw part at hold.value;
      whole_if = omega (arith, feed, inside);
      used_up = omega (arith, feed);
    }

pub returns-in-None : goal.returns-in-None
returns-in-None c =
    let block = c.args.block.now in
    let none : (k : ℕ) → k < length block → get_or block k 0 ≡ line_feed → ⊥ = search rules in
    let feed = feed_none block none in
    let hold = c.hold-in-None.ensures in record {
      stands = rw feed hold.line_after;
      told = rw feed hold.value;
      whole_if = λ fed. omega (arith, ap length feed, fed);
      used_up = omega (arith, ap length feed);
    }
