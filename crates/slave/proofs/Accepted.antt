-- Where no line of the table applies, the request can be carried out.
-- Assumes nothing.
use mathlib.Core.Path.{◌≡◌, refl, sym, ap, ◌∙◌}
use mathlib.Core.Logic.{inl, inr, ◌≢◌}
use mathlib.Core.List.{List}
use Prim.Native.Nat.{ℕ, ◌+◌, ◌*◌, ◌/◌, ◌≤◌}
use native.Mathlib.Omega.{arith}
use lib.ListN.{length}
use Rattle.registers.specs.Memory.{word_bits}
use Rattle.areas.specs.Rules.{RulesKept}
use Rattle.areas.specs.Holding.{InNoArea}
use Rattle.areas.specs.declared.Area.{Area}
use Rattle.areas.proofs.Laws as areas-laws
use Rattle.frames.specs.declared.Width.{Width}
use Rattle.frames.specs.declared.Width.TheVariants.{Bit, Word}
use Rattle.frames.specs.Exceptions.{code_number}
use Rattle.frames.specs.Fields.{quantity_field}
use Rattle.frames.specs.Limits.{bytes_for}
use Rattle.slave.specs.declared.Station.{Station}
use Rattle.slave.specs.declared.decide.Request.{Request}
use Rattle.slave.specs.declared.decide.Decision.{Decision}
use Rattle.slave.specs.declared.decide.Decision.TheVariants.{Refused, Silent, Exception, Accepted}
use Rattle.slave.specs.Numbers.{Kind, exception, accepted}
use Rattle.slave.specs.Conditions.{least_room, AddressedBy}
use Rattle.slave.specs.Table.{FirstDecides, table}
use Rattle.slave.specs.Deciding.{Reads, Decided, SomeAddressed, words_of}
use Rattle.slave.specs.Carrying.{Inside, Possible, CanBeDone}
use Rattle.slave.proofs.Cases.{kind_place}
use Rattle.slave.proofs.Stable.{still_same, still_at_most, still_right}
use Rattle.slave.proofs.Lines.{NoneApplies, skipped, none_applies}
use Rattle.slave.proofs.Run.{words_addressed}
use Rattle.slave.proofs.Judging.{some_addressed}

-- a run none of whose words is in no area lies inside the image
run_inside : (words : ℕ) (areas : List Area) → RulesKept words areas → (width : Width) (first count : ℕ) → 1 ≤ count
    → (SomeAddressed (AddressedBy width first count) (InNoArea areas) → ⊥) → Inside width words first count
run_inside words areas rules Bit first count some held =
    let each = (areas-laws.AllAddressable areas (first / word_bits) (words_of first count)).0
    (λ (word, among, none). held (word, words_addressed first count some word among, none)) in
    let inside = areas-laws.RunInside words areas rules (first / word_bits) (words_of first count) (omega arith) each in
    omega arith
run_inside words areas rules Word first count some held =
    areas-laws.RunInside words areas rules first count some ((areas-laws.AllAddressable areas first count).0 held)

still_inside : (width : Width) (words first count : ℕ) → ((Inside width words first count → ⊥) → ⊥) → Inside width words first count
still_inside Bit words first count = still_at_most (first + count) (words * word_bits)
still_inside Word words first count = still_at_most (first + count) words

module _ (station : Station) (areas : List Area) (words room : ℕ) (frame : List ℕ) where
  pub possible : (request : Request) → NoneApplies (table station areas words room frame) → Reads station frame request
      → Possible frame words room request
  possible request none reads =
      let call = none.1.1 in
      let serial = call.1.1 in
      let message = serial.1.1 in
      let asked = message.1.1.1.1 in
      let limits = asked.1.1 in
      let function = reads.function in
      let some : 1 ≤ request.count =
      still_at_most _ _ (λ few. asked.1.0 (rw (function, ← reads.count) (omega (arith, few)))) in
      let held : SomeAddressed (AddressedBy request.width request.first request.count) (InNoArea areas) → ⊥ =
      λ s. limits.1.0 (inr (some_addressed station frame request reads (InNoArea areas) s)) in
      record {
        count_read = reads.count;
        some = some;
        at_most = still_at_most _ _ (λ over. limits.0 (rw (function, ← reads.count) (inl (omega (arith, over)))));
        inside = still_inside request.width words request.first request.count
            (λ outside. call.0 (λ kept. outside
            (run_inside words areas kept request.width request.first request.count some held)));
        long = still_same _ _ (λ other. asked.0 (rw function other));
        byte_count = λ run.
            let count : quantity_field frame ≡ request.count = sym (reads.count ∙ rw run refl) in
            still_same _ _
            (λ other. limits.0 (rw function (inr (inl (run, λ e. other (e ∙ ap (bytes_for request.width) count))))));
        right = still_right frame serial.1.0;
        room_enough = still_at_most _ _ (λ few. call.1.0 (omega (arith, few)));
      }

  -- no line of the table accepts, so where a request is accepted none applies
  pub no_line : FirstDecides (table station areas words room frame) accepted → NoneApplies (table station areas words room frame)
  no_line = none_applies (table station areas words room frame) tt

  -- a call that is not refused has room enough
  pub enough_room : (kind : Kind) → kind_place kind ≢ 0 → FirstDecides (table station areas words room frame) kind → least_room ≤ room
  enough_room kind other first =
      let behind-3 = (skipped other (skipped other (skipped other first).1).1).1 in
      still_at_most _ _ (λ few. (skipped other behind-3).0 (omega (arith, few)))

  -- a frame that an exception answers has a function
  pub exception_long : (kind : Kind) (n : ℕ) → kind ≡ exception n → FirstDecides (table station areas words room frame) kind
      → 2 ≤ length frame
  exception_long kind n is first =
      let place : kind_place kind ≡ 2 = ap kind_place is in
      let call = (skipped (λ e. omega arith) (skipped (λ e. omega arith) first).1).1 in
      let serial = (skipped (λ e. omega arith) (skipped (λ e. omega arith) call).1).1 in
      still_at_most _ _ (λ few. (skipped (λ e. omega arith) serial).0 (inl (omega (arith, few))))

  -- what was decided can be carried out
  pub can_be_done : (decision : Decision) → Decided (table station areas words room frame) station frame decision
      → CanBeDone station frame words room decision
  can_be_done (Refused why) decided = tt
  can_be_done (Silent why) decided = tt
  can_be_done (Exception code) decided = enough_room (exception (code_number code)) (λ e. omega arith) decided.kind
  can_be_done (Accepted request) decided = (decided.fields, possible request (no_line decided.kind) decided.fields)
