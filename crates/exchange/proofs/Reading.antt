-- A frame that fits its request is read as what it says, and as nothing else: a read's reply, a write's, and an exception.
-- Assumes nothing.
use mathlib.Core.Path.{◌≡◌, refl, sym, ap}
use mathlib.Core.Logic.{◌≢◌}
use mathlib.Core.List.{List, [], ◌∷◌, ◌++◌}
use Prim.Native.Nat.{ℕ, ◌≤◌}
use native.Mathlib.Omega.{arith}
use lib.ListN.{length, drop}
use lib.Seq.{take-append_seam}
use Rattle.std.specs.Prelude.{Result, Ok}
use Rattle.check_word.specs.CheckWord.{check_word}
use Rattle.check_word.specs.Frame.{low_first, framed}
use Rattle.check_word.proofs.Laws as check-word
use Rattle.frames.specs.declared.Act.TheVariants.{Read}
use Rattle.frames.specs.declared.Code.{Code}
use Rattle.frames.specs.Limits.{bytes_for}
use Rattle.frames.specs.Exceptions.{code_number, top_bit_set, exception_frame}
use Rattle.master.specs.declared.Request.{Request}
use Rattle.master.specs.declared.Refusal.{Refusal}
use Rattle.master.specs.declared.Reading.{Reading}
use Rattle.master.specs.declared.Reading.TheVariants.{Data, Written, Exception}
use Rattle.master.specs.Requests.{function_number, act, width, request_head}
use Rattle.master.specs.Refusals.{FieldsRefused}
use Rattle.master.specs.Reading.{data_in, SpareBits0, Fits, Left, ReadReply}
use Rattle.master.proofs.Framed.{framed_length}
use Rattle.master.proofs.Fits.{other_than_read}
use Rattle.master.proofs.Accepting.{told_right}
use Rattle.master.proofs.Laws.{ReadReplyDetermined}
use Rattle.exchange.specs.Terms.{ReadAs}
use Rattle.exchange.proofs.Fields.{head_start, head_operand}

module _ (request : Request) (buffer : List ℕ) (fields : FieldsRefused request (length buffer) → ⊥) where
  frame_read : (body : List ℕ) (reading : Reading) (bytes : List ℕ) → 3 ≤ length body → Fits request (framed body) reading
      → Left (framed body) buffer (Ok reading) (bytes ++ drop (length bytes) buffer)
      → ReadAs request (framed body) buffer reading bytes
  frame_read body reading bytes long fits left =
      let told = told_right request (length buffer) (framed body) reading fields
      (omega (arith, framed_length body)) (check-word.Framing body) fits in
      let read : ReadReply request (framed body) buffer (Ok reading) (bytes ++ drop (length bytes) buffer) =
      record { told = told; left = left } in
      record {
        is_read = read;
        nothing_else = λ other after also.
            let same = ReadReplyDetermined request (framed body) buffer (other, after) (Ok reading, _) also read in
            (ap (λ (a : Result Reading Refusal × List ℕ). a.0) same, ap (λ (a : Result Reading Refusal × List ℕ). a.1) same);
      }

  pub reply_to_read : (shown : List ℕ) → act request ≡ Read → length shown ≡ bytes_for (width request) request.operand
      → SpareBits0 (width request) request.operand shown
      → ReadAs request
      (framed (request.station ∷ function_number request.function ∷ bytes_for (width request) request.operand ∷ shown))
      buffer (Data (length shown)) shown
  reply_to_read shown reads size spare =
      let body = request.station ∷ function_number request.function ∷ bytes_for (width request) request.operand ∷ shown in
      let data_is : data_in (length shown) (framed body) ≡ shown = take-append_seam shown (low_first (check_word body)) in
      frame_read body (Data (length shown)) shown (omega arith)
      (record {
        reads = reads;
        station = refl;
        function = refl;
        size = size;
        byte_count = sym size;
        spare = rw data_is spare;
        long = rw reads (omega (arith, framed_length body, size));
      })
      (ap (λ (bytes : List ℕ). bytes ++ drop (length shown) buffer) (sym data_is))

  pub reply_to_write : act request ≢ Read → ReadAs request (framed (request_head request)) buffer Written []
  reply_to_write writes =
      frame_read (request_head request) Written [] (omega arith)
      (record {
        writes = writes;
        station = refl;
        function = refl;
        start = head_start request [];
        operand = head_operand request [];
        long = sym (other_than_read (act request) (width request) request.operand writes);
      })
      refl

  pub exception_reply : (code : Code)
      → ReadAs request (exception_frame request.station (function_number request.function) (code_number code))
      buffer (Exception code) []
  exception_reply code =
      frame_read (request.station ∷ top_bit_set (function_number request.function) ∷ code_number code ∷ []) (Exception code) []
      (omega arith) (record { station = refl; function = refl; number = refl; long = refl }) refl
