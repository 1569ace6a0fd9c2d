-- The data of an accepted read's reply.
-- Assumes nothing.
use mathlib.Core.Path.{◌≡◌, ap, subst, sym, ◌∙◌}
use mathlib.Core.List.{List, ◌∷◌, ◌++◌, append_assoc}
use Prim.Native.Nat.{ℕ, ◌-◌}
use native.Mathlib.Omega.{arith}
use lib.ListN.{length, take, drop}
use lib.Seq.{take_at}
use Rattle.check_word.specs.CheckWord.{check_word}
use Rattle.check_word.specs.Frame.{low_first, framed}
use Rattle.frames.specs.declared.Act.TheVariants.{Read}
use Rattle.frames.specs.declared.Width.{Width}
use Rattle.frames.specs.Fields.{byte, function_field, quantity_field}
use Rattle.frames.specs.Limits.{bytes_for}
use Rattle.slave.specs.Answer.{Shown, Call, Answer}
use Rattle.slave.proofs.Reply.{framed_length}
use Rattle.demands.specs.Terms.{first_of, data_of}
use Rattle.demands.proofs.Left.{IsDone}

-- behind three head bytes, and before the check word
data_behind_head : (a b c : ℕ) (shown rest : List ℕ) (n : ℕ) → n ≡ length (framed (a ∷ b ∷ c ∷ shown))
    → data_of n (framed (a ∷ b ∷ c ∷ shown) ++ rest) ≡ shown
data_behind_head a b c shown rest n size =
    let word = low_first (check_word (a ∷ b ∷ c ∷ shown)) in
    let data-size : length shown ≡ n - 5 = omega (arith, size, framed_length (a ∷ b ∷ c ∷ shown)) in
    ap (take (n - 5)) (append_assoc shown word rest) ∙ take_at shown (word ++ rest) (n - 5) data-size

pub read_shows : (call : Call) (answer : Answer) (n : ℕ) (width : Width) → IsDone call n answer.image answer.reply Read width
    → Shown width (first_of call) (quantity_field call.frame) call.image (data_of n answer.reply)
    × (byte answer.reply 2 ≡ bytes_for width (quantity_field call.frame))
    × (answer.image ≡ call.image)
read_shows call answer n width d =
    let (shown, are, is) = d.are_the_reply in
    let count = bytes_for width (quantity_field call.frame) in
    let rest = drop (length d.bytes) call.reply in
    let written = d.written ∙ ap (λ (bytes : List ℕ). bytes ++ rest) is in
    let data_is = ap (data_of n) written
    ∙ data_behind_head call.station.own (function_field call.frame) count shown rest n (d.told ∙ ap length is) in (
      subst (Shown width (first_of call) (quantity_field call.frame) call.image) (sym data_is) are,
      ap (λ (reply : List ℕ). byte reply 2) written,
      d.stored,
    )
