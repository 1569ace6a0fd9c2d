-- `read` meets its contract: three bytes and the packed ones, with their check word behind them.
-- Assumes nothing.
use Rattle.std.proofs.Common.{rules, is_ok, ◌≡◌, refl, ap, ◌∙◌, Bool, List, [], ◌∷◌, ◌++◌, ℕ, ◌+◌, ◌-◌, ◌≤◌, length, take, drop, arith, length-take, length-drop}
use Rattle.std.proofs.Math.Seq.{length-take-le}
use Rattle.check_word.specs.Frame.{framed, Put}
use Rattle.registers.specs.Packing.{Filled}
use Rattle.frames.specs.Fields.{function_field}
use Rattle.slave.specs.Answer.{over}
use Rattle.slave.proofs.Reply.{body_framed, body_more}
use Rattle.slave.proofs.decide.Request.read.Goals as goal

-- three bytes, of which the third counts those that the part behind them is filled with, and behind those the check word
data_framed : (own function third m : ℕ) (before mid part after : List ℕ) (r : Bool) (Shows : List ℕ → Type 0) → third ≡ m
    → mid ≡ own ∷ function ∷ third ∷ drop 3 before → 5 + m ≤ length before
    → Filled m Shows (take (length mid - 3) (drop 3 mid)) part
    → Put (3 + third) (take 3 mid ++ (part ++ drop (length mid - 3) (drop 3 mid))) r after
    → after ≡ over (framed (own ∷ function ∷ m ∷ take m part)) before
data_framed own function third m before mid part after r Shows e head room filled put =
    let head' : mid ≡ own ∷ function ∷ m ∷ drop 3 before = rw e at head in
    let put' : Put (3 + m) (take 3 mid ++ (part ++ drop (length mid - 3) (drop 3 mid))) r after = rw e at put in
    let long : length mid ≡ 3 + (length before - 3) = ap length head ∙ omega (arith, length-drop 3 before) in
    let size : length (take m part) ≡ m =
    length-take-le m part (omega (arith, filled.as_long, length-take (length mid - 3) (drop 3 mid), length-drop 3 mid)) in
    body_framed (3 + m) (own ∷ function ∷ m ∷ take m part) before _
    (body_more 3 (own ∷ function ∷ m ∷ []) before mid head' refl m Shows part filled)
    (omega (arith, size)) r after (omega arith) put'

pub returns : goal.returns
returns c =
    let bytes = c.bytes_for-bytes in
    record {
      shown = _;
      are_shown = c.pack.ensures.front;
      written =
          data_framed c.args.own (function_field c.args.frame.now) bytes.result _ c.args.reply.now _ _ _ (is_ok c.put_check_word.result) _
          bytes.ensures (search rules) (omega arith) c.pack.ensures c.put_check_word.ensures;
    }
