-- Progress in a block, and then in the rest of it, is progress in the block.
-- Assumes nothing.
use mathlib.Core.Path.{◌≡◌, sym, ap, ◌∙◌}
use mathlib.Core.List.{List, ◌++◌}
use Prim.Native.Nat.{ℕ, ◌+◌, ◌-◌, ◌≤◌, ◌<◌}
use native.Mathlib.Omega.{arith}
use lib.ListN.{length, take, drop, length-append, length-take, length-drop}
use lib.Seq.{take-add, take_all}
use Rattle.lines.proofs.Behind.{over_behind}
use Rattle.bench.specs.declared.answer.Progress.{Progress}
use Rattle.bench.specs.Blocks.{Progressed}
use Rattle.bench.proofs.Standing.{stands_none, stands_size}
use Rattle.bench.proofs.Passing.{nothing_passed, passed_then}

abbrev pub progress : ℕ → ℕ → ℕ → Progress
progress used held written = record { used = used; held = held; written = written }

-- how long the part from a place on is
pub part_size : (xs : List ℕ) (n : ℕ) → length (take (length xs - n) (drop n xs)) ≡ length xs - n
part_size xs n = omega (arith, length-take (length xs - n) (drop n xs), length-drop n xs)

-- before the end of a block, the part from there on is used up in part
pub moved_on : (block : List ℕ) (from used : ℕ) → from < length block
    → (0 < length (take (length block - from) (drop from block)) → 0 < used) → 0 < used
moved_on block from used more moves = moves (omega (arith, part_size block from))

pub text_size : (block line : List ℕ) (held : ℕ) (image text : List ℕ) (done : Progress) (line₁ image₁ text₁ : List ℕ)
    → Progressed block line held image text done line₁ image₁ text₁ → length text₁ ≡ length text
text_size block line held image text done line₁ image₁ text₁ first = stands_size _ _ _ _ first.answered

pub no_progress : (block line : List ℕ) (held : ℕ) (image text : List ℕ) → held ≤ length line
    → Progressed block line held image text (progress 0 held 0) line image text
no_progress block line held image text h = record {
  used_within = omega arith;
  held_within = h;
  answered = stands_none _ text (nothing_passed line image held);
}

-- what came up to a place, and what came then
pub came_then : (block : List ℕ) (u v : ℕ)
    → take (u + v) block ≡ take u block ++ take v (take (length block - u) (drop u block))
came_then block u v =
    let rest = take_all (length block - u) (drop u block) (omega (arith, length-drop u block)) in
    take-add u v block ∙ ap (λ (t : List ℕ). take u block ++ take v t) (sym rest)

pub progress_then : (block line : List ℕ) (held : ℕ) (image text : List ℕ) (done : Progress) (line₁ image₁ text₁ : List ℕ)
    → Progressed block line held image text done line₁ image₁ text₁ → length line₁ ≡ length line
    → (next : Progress) (line₂ image₂ part : List ℕ)
    → Progressed (take (length block - done.used) (drop done.used block)) line₁ done.held image₁
    (take (length text₁ - done.written) (drop done.written text₁)) next line₂ image₂ part
    → Progressed block line held image text (progress (done.used + next.used) next.held (done.written + next.written))
    line₂ image₂ (take done.written text₁ ++ (part ++ drop (length text₁ - done.written) (drop done.written text₁)))
progress_then block line held image text done line₁ image₁ text₁ first size next line₂ image₂ part then =
    let u : ℕ = done.used in
    let w : ℕ = done.written in
    let one = first.answered in
    let two = then.answered in
    let room = part_size text₁ w in
    let long = text_size block line held image text done line₁ image₁ text₁ first in
    let both = length-append one.text two.text in
    let behind = rw one.stands at two.stands in
    let passed = passed_then _ _ _ _ _ _ _ _ _ _ _ _ _ one.is_of_the_kind two.is_of_the_kind in
    record {
      used_within = omega (arith, first.used_within, then.used_within, part_size block u);
      held_within = omega (arith, then.held_within, size);
      answered = record {
        text = one.text ++ two.text;
        is_of_the_kind = rw (came_then block u next.used) passed;
        within = omega (arith, both, one.told, one.within, two.within, room, long);
        told = omega (arith, both, one.told, two.told);
        stands = rw one.stands (over_behind one.text two.text text part w one.told one.within behind);
      };
    }
