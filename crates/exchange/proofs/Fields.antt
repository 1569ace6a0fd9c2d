-- A built request, as the station that receives it sees it: its fields, its length and its data.
-- Assumes nothing.
use mathlib.Core.Path.{◌≡◌, refl, sym, ap, subst, ◌∙◌}
use mathlib.Core.List.{List, [], ◌∷◌, ◌++◌}
use Prim.Native.Nat.{ℕ, ◌≤◌, ◌<◌}
use native.Mathlib.Omega.{arith}
use lib.ListN.{length, take, drop}
use lib.Seq.{take_at}
use Rattle.check_word.specs.Frame.{shortest, longest, framed, Right}
use Rattle.frames.specs.declared.Act.{Act}
use Rattle.frames.specs.declared.Act.TheVariants.{Read, WriteOne, WriteRun}
use Rattle.frames.specs.declared.Width.{Width}
use Rattle.frames.specs.declared.Width.TheVariants.{Bit, Word}
use Rattle.frames.specs.Fields.{number, station_field, function_field, start_field, quantity_field, byte_count_field, data_field, up_to_quantity}
use Rattle.frames.specs.Limits.{quantity, bytes_for, request_length}
use Rattle.slave.specs.Answer.{Call}
use Rattle.demands.specs.Terms.{Does, run_data}
use Rattle.master.specs.declared.Request.{Request}
use Rattle.master.specs.Requests.{function_number, act, width, quantity_for, request_head}
use Rattle.master.specs.Building.{PackedAgain, Following, RequestPut}
use Rattle.master.specs.Laws.{BuiltFrame}
use Rattle.master.proofs.Framed.{framed_length}
use Rattle.master.proofs.SpareBits.{packed_size}
use Rattle.master.proofs.Laws.{FunctionsInTable, BuiltFrames}
use Rattle.exchange.specs.Terms.{Received}

-- ---- data that are packed again

packed_data : (width : Width) (count : ℕ) (carried packed : List ℕ) → PackedAgain width count carried packed
    → (n : ℕ) → n < count → run_data width packed n ≡ run_data width carried n
packed_data Bit count carried packed are = are.shown
packed_data Word count carried packed are = are.shown

-- ---- a frame that begins with the head of a request

module _ (request : Request) (rest : List ℕ) where
  abbrev frame : List ℕ
  frame = framed (request_head request ++ rest)

  pub head_start : start_field frame ≡ request.start
  unfolding number
  head_start = omega arith

  pub head_operand : quantity_field frame ≡ request.operand
  unfolding number
  head_operand = omega arith

  head_quantity : (act : Act) → quantity act frame ≡ quantity_for act request.operand
  head_quantity Read = head_operand
  head_quantity WriteOne = refl
  head_quantity WriteRun = head_operand

  module _ (width : Width) (carried : List ℕ) where
    head_long : (act : Act) → Following act width request.operand carried rest → length frame ≡ request_length act frame
    head_long Read none = rw none refl
    head_long WriteOne none = rw none refl
    head_long WriteRun (packed, are, is) =
        let size = packed_size width request.operand carried packed are in
        rw is (omega (arith, size, framed_length (request_head request ++ bytes_for width request.operand ∷ packed)))

    module _ (follows : Following WriteRun width request.operand carried rest) where
      head_byte_count : byte_count_field frame ≡ bytes_for width request.operand
      head_byte_count = rw follows.2 refl

      head_data : (n : ℕ) → n < request.operand → run_data width (data_field frame) n ≡ run_data width carried n
      head_data =
          let (packed, are, is) = follows in
          let data_is : data_field frame ≡ packed =
          rw is (take_at packed _ _ (packed_size width request.operand carried packed are)) in
          rw data_is (packed_data width request.operand carried packed are)

-- ---- the frame that is received

module _ {request : Request} {carried : List ℕ} {call : Call} (received : Received request carried call) where
  abbrev put : RequestPut request carried received.before received.n received.after
  put = received.built.1

  abbrev behind : List ℕ
  behind = put.are_the_request.rest

  follows : Following (act request) (width request) request.operand carried behind
  follows = put.are_the_request.following

  bytes_received : call.frame ≡ put.bytes
  bytes_received =
      received.frame ∙ ap (take received.n) put.written
      ∙ take_at put.bytes (drop (length put.bytes) received.before) received.n (sym put.told)

  frame_is : call.frame ≡ framed (request_head request ++ behind)
  frame_is = bytes_received ∙ put.are_the_request.are

  frame_built : BuiltFrame received.n received.after
  frame_built = BuiltFrames request carried received.before received.n received.after received.built

  pub right_received : Right call.frame
  right_received = subst Right (sym received.frame) frame_built.right

  pub size_received : (shortest ≤ length call.frame) × (length call.frame ≤ longest)
  size_received =
      let size : length call.frame ≡ received.n = ap length bytes_received ∙ sym put.told in
      (omega (arith, size, frame_built.least), omega (arith, size, frame_built.most))

  pub does : Does call (act request) (width request)
  does = rw frame_is (FunctionsInTable request.function)

  pub station_received : station_field call.frame ≡ request.station
  station_received = rw frame_is refl

  pub function_received : function_field call.frame ≡ function_number request.function
  function_received = rw frame_is refl

  pub start_received : start_field call.frame ≡ request.start
  start_received = rw frame_is (head_start request behind)

  pub operand_received : quantity_field call.frame ≡ request.operand
  operand_received = rw frame_is (head_operand request behind)

  pub quantity_received : quantity (act request) call.frame ≡ quantity_for (act request) request.operand
  quantity_received = rw frame_is (head_quantity request behind (act request))

  pub long_received : length call.frame ≡ request_length (act request) call.frame
  long_received = rw frame_is (head_long request behind (width request) carried (act request) follows)

  pub head_received : up_to_quantity call.frame ≡ request_head request
  head_received = rw frame_is refl

  pub byte_count_received : act request ≡ WriteRun → byte_count_field call.frame ≡ bytes_for (width request) request.operand
  byte_count_received run = rw frame_is (head_byte_count request behind (width request) carried (rw run at follows))

  pub data_received : act request ≡ WriteRun
      → (n : ℕ) → n < request.operand → run_data (width request) (data_field call.frame) n ≡ run_data (width request) carried n
  data_received run = rw frame_is (head_data request behind (width request) carried (rw run at follows))

  pub one_received : act request ≡ WriteOne → call.frame ≡ framed (request_head request)
  one_received one =
      let none : behind ≡ [] = rw one at follows in
      frame_is ∙ ap (λ (rest : List ℕ). framed (request_head request ++ rest)) none
