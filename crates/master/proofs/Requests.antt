-- Requests that are built: one for one call, and how long it is.
-- Assumes nothing.
use mathlib.Core.Path.{◌≡◌, sym, ap, subst, ◌∙◌}
use mathlib.Core.Logic.{inl, inr}
use mathlib.Core.List.{List, ◌++◌}
use Prim.Native.Nat.{ℕ, ◌+◌, ◌≤◌, ◌<◌}
use native.Mathlib.Omega.{arith}
use lib.ListN.{length, take, drop}
use Rattle.std.specs.Prelude.{Result, Ok, Err}
use lib.Seq.{take_at}
use Rattle.promise.specs.Promise.{Determined}
use Rattle.check_word.specs.Frame.{framed, Right}
use Rattle.check_word.proofs.Laws as check-word
use Rattle.registers.specs.Packing.{packed_bit, packed_word}
use Rattle.registers.proofs.Laws as registers-laws
use Rattle.frames.specs.declared.Act.{Act}
use Rattle.frames.specs.declared.Act.TheVariants.{Read, WriteOne, WriteRun}
use Rattle.frames.specs.declared.Width.{Width}
use Rattle.frames.specs.declared.Width.TheVariants.{Bit, Word}
use Rattle.frames.specs.Limits.{most, bytes_for}
use Rattle.master.specs.declared.Request.{Request}
use Rattle.master.specs.declared.Refusal.{Refusal}
use Rattle.master.specs.Requests.{act, width, quantity_for, quantity, request_head}
use Rattle.master.specs.Refusals.{refusal_number, Line}
use Rattle.master.specs.Building.{building_lines, PackedAgain, Following, RequestFrame, Build}
use Rattle.master.specs.Laws.{BuiltFrames}
use Rattle.master.proofs.Numbers.{refusals_apart}
use Rattle.master.proofs.Lines.{refused_determined, refused_or_not}
use Rattle.master.proofs.SpareBits.{packed_size}
use Rattle.master.proofs.Framed.{framed_length}

-- ---- how long it is

most_bytes : (act : Act) (width : Width) (count : ℕ) → count ≤ most act width → bytes_for width count ≤ 160
most_bytes Read Bit count h = omega arith
most_bytes Read Word count h = omega arith
most_bytes WriteOne Bit count h = omega arith
most_bytes WriteOne Word count h = omega arith
most_bytes WriteRun Bit count h = omega arith
most_bytes WriteRun Word count h = omega arith

following_short : (act : Act) (width : Width) (operand : ℕ) (carried rest : List ℕ) → quantity_for act operand ≤ most act width
    → Following act width operand carried rest → length rest ≤ 161
following_short Read width operand carried rest few none = omega (arith, ap length none)
following_short WriteOne width operand carried rest few none = omega (arith, ap length none)
following_short WriteRun width operand carried rest few (packed, are, is) =
    omega (arith, ap length is, packed_size width operand carried packed are, most_bytes WriteRun width operand few)

request_length_lem : (request : Request) (carried bytes : List ℕ) (f : RequestFrame request carried bytes)
    → length bytes ≡ 8 + length f.rest
request_length_lem request carried bytes f =
    ap length f.are ∙ omega (arith, framed_length (request_head request ++ f.rest))

pub built_frame : BuiltFrames
built_frame request carried before n after (none, put) =
    let frame = put.are_the_request in
    let not-many : most (act request) (width request) < quantity request → ⊥ = λ many. none.0 (inr (inl (inr (inl many)))) in
    let few : quantity request ≤ most (act request) (width request) = omega (arith, not-many) in
    let short = following_short (act request) (width request) request.operand carried frame.rest few frame.following in
    let long = request_length_lem request carried put.bytes frame in
    let front : take n after ≡ put.bytes =
    ap (take n) put.written ∙ take_at put.bytes (drop (length put.bytes) before) n (sym put.told) in
    record {
      least = omega (arith, put.told, long);
      most = omega (arith, put.told, long, short);
      right = subst Right (sym (front ∙ frame.are)) (check-word.Framing (request_head request ++ frame.rest));
    }

-- ---- one for one call

packed_determined : (width : Width) (count : ℕ) (carried : List ℕ) → Determined (PackedAgain width count carried)
packed_determined Bit count carried = registers-laws.BitsPackedDetermined count (packed_bit carried)
packed_determined Word count carried = registers-laws.WordsPackedDetermined count (packed_word carried)

following_determined : (act : Act) (width : Width) (operand : ℕ) (carried : List ℕ)
    → Determined (Following act width operand carried)
following_determined Read width operand carried a b p q = p ∙ sym q
following_determined WriteOne width operand carried a b p q = p ∙ sym q
following_determined WriteRun width operand carried a b (x, are-x, is) (y, are-y, also) =
    cc (is, also, packed_determined width operand carried x y are-x are-y)

frame_determined : (request : Request) (carried : List ℕ) → Determined (RequestFrame request carried)
frame_determined request carried a b p q =
    let same = following_determined (act request) (width request) request.operand carried
    p.rest q.rest p.following q.following in
    p.are ∙ ap (λ (rest : List ℕ). framed (request_head request ++ rest)) same ∙ sym q.are

module _ (request : Request) (carried before : List ℕ) where
  abbrev lines : List Line
  lines = building_lines request carried (length before)

  pub build_determined : Determined (λ (a : Result ℕ Refusal × List ℕ). Build request carried before a.0 a.1)
  build_determined (Err a, x) (Err b, y) (by, same) (also-by, also) =
      cc (refusals_apart a b (refused_determined lines (refusal_number a) (refusal_number b) by also-by), same, also)
  build_determined (Err a, x) (Ok m, y) (by, same) (none, put) = absurd (refused_or_not lines (refusal_number a) by none)
  build_determined (Ok n, x) (Err b, y) (none, put) (by, same) = absurd (refused_or_not lines (refusal_number b) by none)
  build_determined (Ok n, x) (Ok m, y) (none, p) (also-none, q) =
      let same = frame_determined request carried p.bytes q.bytes p.are_the_request q.are_the_request in
      cc (same, p.told, q.told, p.written, q.written)
