-- What is decided of a J-Bus station's start s + 1 and of a MOD-Bus station's start s is the same, line by line.
-- Assumes nothing.
use mathlib.Core.Path.{◌≡◌, refl, sym, ap, subst, ◌∙◌}
use mathlib.Core.Logic.{inl, inr, ⊎_elim}
use mathlib.Core.List.{List}
use Prim.Native.Nat.{ℕ, ◌+◌}
use native.Mathlib.Omega.{arith}
use lib.ListN.{length, drop}
use Rattle.frames.specs.declared.Act.{Act}
use Rattle.frames.specs.declared.Width.{Width}
use Rattle.std.specs.Prelude.{Option, Some, None}
use Rattle.frames.specs.Functions.{function_of}
use Rattle.frames.specs.Limits.{quantity, bytes_for, BitValue}
use Rattle.slave.specs.declared.Counting.TheVariants.{ModBus, JBus}
use Rattle.slave.specs.Conditions.{OutOfLimits, SomeAddressedWord}
use Rattle.slave.specs.Answer.{Call}
use Rattle.slave.proofs.Cases.{counting_place, apart}
use Rattle.slave.proofs.Stable.{still_same}
use Rattle.demands.specs.Terms.{lines_of, Does, first_of, receiving, request}
use Rattle.demands.proofs.SameLines.{Same, same_line}
use Rattle.demands.proofs.TwoStarts.{restarted_right, restarted_length, restarted_start, Long, quantity_over, count_over, byte_count_over, long_over}

limits_over : (a f : ℕ) (rest : List ℕ) (s t : ℕ) (act : Act) (width : Width) → Long a f rest act s
    → OutOfLimits (request a f s rest) act width → OutOfLimits (request a f t rest) act width
limits_over a f rest s t act width long (inl over) = inl (omega (arith, over, count_over a f rest s t act long))
limits_over a f rest s t act width long (inr (inl (run, other))) =
    let bytes = byte_count_over a f rest s t (subst (λ (x : Act). Long a f rest x s) run long) in
    let count = quantity_over a f rest s t act long in
    inr (inl (run, λ e. other (bytes ∙ e ∙ ap (bytes_for width) (sym count))))
limits_over a f rest s t act width long (inr (inr (one, bit, neither))) =
    inr (inr (one, bit, λ value. neither (subst BitValue (sym (quantity_over a f rest s t act long)) value)))

-- two calls that do the same from the same address on address the same words
some_over : (call other : Call) (act : Act) (width : Width) → Does call act width → Does other act width
    → first_of call ≡ first_of other → quantity act call.frame ≡ quantity act other.frame → (Such : ℕ → Type 0)
    → SomeAddressedWord call.station call.frame Such → SomeAddressedWord other.station other.frame Such
some_over call other act width does does' first count Such some = rw (does', ← first, ← count) (rw does at some)

-- address a, function f, a start, and whatever follows it
module _ (call : Call) (a f start : ℕ) (rest : List ℕ) where
  abbrev pub mod_bus : Call
  mod_bus = receiving ModBus (request a f start rest) call

  abbrev pub j_bus : Call
  j_bus = receiving JBus (request a f (start + 1) rest) call

  -- from line n on, counted from 0
  abbrev SameFrom : ℕ → Type 0
  SameFrom n = Same (drop n (lines_of mod_bus)) (drop n (lines_of j_bus))

  pub same_first : first_of mod_bus ≡ first_of j_bus
  same_first =
      let one_higher = restarted_start a f rest (start + 1) in
      restarted_start a f rest start ∙ omega (arith, one_higher)

  module _ (act : Act) (width : Width) (is : function_of f ≡ Some (act, width)) where
    -- lines E2 and E8
    area_lines_same : Long a f rest act start → SameFrom 13
    area_lines_same long =
        let count = count_over a f rest start (start + 1) act long in
        let to = some_over mod_bus j_bus act width is is same_first count in
        let back = some_over j_bus mod_bus act width is is (sym same_first) (sym count) in (
          refl,
          ⊎_elim (λ none. absurd (apart counting_place refl none.0 (omega arith))) (λ some. inr (to _ some)),
          ⊎_elim (λ none. absurd (omega (arith, none.1, restarted_start a f rest (start + 1)))) (λ some. inr (back _ some)),
          λ somewhere. (
            refl,
            λ write. (write.0, to _ write.1),
            λ write. (write.0, back _ write.1),
            λ all. tt,
          ),
        )

    -- lines 14 to E8
    request_lines_same : SameFrom 10
    request_lines_same = (
      refl,
      λ wrong. rw is (λ long. (rw is at wrong) (long_over a f rest (start + 1) start act long)),
      λ wrong. rw is (λ long. (rw is at wrong) (long_over a f rest start (start + 1) act long)),
      λ right.
          let long : Long a f rest act start = still_same _ _ (λ other. right (rw is other)) in
          let higher = long_over a f rest start (start + 1) act long in
          let count = count_over a f rest start (start + 1) act long in (
            refl,
            λ zero. rw is (sym count ∙ (rw is at zero)),
            λ zero. rw is (count ∙ (rw is at zero)),
            λ some. (
              refl,
              λ out. rw is (limits_over a f rest start (start + 1) act width long (rw is at out)),
              λ out. rw is (limits_over a f rest (start + 1) start act width higher (rw is at out)),
              λ within. area_lines_same long,
            ),
          ),
    )

  -- the same, whatever the function; line E1 has told that it is known
  function_lines : (lookup : Option (Act × Width)) → function_of f ≡ lookup → (function_of f ≡ None → ⊥) → SameFrom 10
  function_lines (Some (act, width)) is known = request_lines_same act width is
  function_lines None is known = absurd (known is)

  lengths : length mod_bus.frame ≡ length j_bus.frame
  lengths = restarted_length a f rest start ∙ sym (restarted_length a f rest (start + 1))

  -- from line 10 on
  frame_lines_same : SameFrom 4
  frame_lines_same = (
    refl,
    λ serial. rw (← lengths) serial,
    λ serial. rw lengths serial,
    λ framed. (
      refl,
      λ wrong. absurd (wrong (restarted_right a f rest start)),
      λ wrong. absurd (wrong (restarted_right a f rest (start + 1))),
      λ right. same_line (λ ours. same_line (λ away. same_line (λ ready. same_line (function_lines (function_of f) refl)))),
    ),
  )

  pub same_lines : SameFrom 0
  same_lines = same_line (λ own. same_line (λ image. same_line (λ rules. same_line (λ room. frame_lines_same))))
