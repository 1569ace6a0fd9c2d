-- A request that is put: head and rest, with their check word behind them.
-- Assumes nothing.
use mathlib.Core.Path.{◌≡◌, refl, sym, ap, ap₂, ◌∙◌}
use mathlib.Core.Bool.{true}
use mathlib.Core.List.{List, ◌∷◌, ◌++◌}
use Prim.Native.Nat.{ℕ, ◌+◌}
use native.Mathlib.Omega.{arith}
use lib.ListN.{length, take, drop}
use lib.Seq.{drop-drop}
use Rattle.check_word.specs.Frame.{framed, Put}
use Rattle.frames.specs.Limits.{bytes_for}
use Rattle.master.specs.declared.Request.{Request}
use Rattle.master.specs.Requests.{act, width, request_head}
use Rattle.master.specs.Building.{Following, RequestPut}
use Rattle.master.specs.Putting.{RunPut}
use Rattle.master.proofs.Framed.{framed_length, body_framed}

module _ (request : Request) (carried before : List ℕ) where
  pub request_put : (n told : ℕ) (rest mid after : List ℕ)
      → Following (act request) (width request) request.operand carried rest
      → length (request_head request ++ rest) ≡ n → mid ≡ request_head request ++ rest ++ drop n before
      → (told ≡ n + 2) × Put n mid true after → RequestPut request carried before told after
  request_put n told rest mid after following size laid (is, put) =
      let body = request_head request ++ rest in
      record {
        bytes = framed body;
        are_the_request = record { rest = rest; following = following; are = refl };
        told = is ∙ omega (arith, framed_length body, size);
        written = body_framed n body before mid after laid size put;
      }

  pub run_behind : (head mid : List ℕ) → head ≡ request_head request ++ drop 6 before
      → (run : RunPut (width request) request.operand carried head mid)
      → mid ≡ request_head request ++ (bytes_for (width request) request.operand ∷ run.packed)
      ++ drop (7 + length carried) before
  run_behind head mid is run =
      let n = length carried in
      let counted = bytes_for (width request) request.operand ∷ run.packed in
      run.written
      ∙ ap₂ (λ (front rest : List ℕ). front ++ counted ++ rest) (ap (take 6) is)
      (sym (drop-drop n 7 head) ∙ ap (drop n) (ap (drop 7) is ∙ drop-drop 1 6 before) ∙ drop-drop n 7 before)
