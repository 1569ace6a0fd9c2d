-- Replies: bytes written over the start of a buffer, then a lent part behind them that is filled, then the check word; and how
-- many bytes they have.
-- Assumes nothing.
use mathlib.Core.Path.{◌≡◌, sym, ap, ap₂, ◌∙◌}
use mathlib.Core.Bool.{Bool}
use mathlib.Core.List.{List, ◌∷◌, ◌++◌, append_assoc, append-nil}
use Prim.Native.Nat.{ℕ, ◌+◌, ◌-◌, ◌≤◌}
use native.Mathlib.Omega.{arith}
use lib.ListN.{length, take, drop, length-append, length-drop, take-append-drop, drop_of_length-le}
use lib.Seq.{take_at, drop_at, take_all, drop-drop, length-take-le}
use Rattle.promise.proofs.Promise.{attempt_done}
use Rattle.check_word.specs.CheckWord.{check_word}
use Rattle.check_word.specs.Frame.{low_first, framed, Right, Put}
use Rattle.registers.specs.Packing.{Filled}
use Rattle.frames.specs.declared.Act.{Act}
use Rattle.frames.specs.declared.Act.TheVariants.{Read, WriteOne, WriteRun}
use Rattle.frames.specs.declared.Width.{Width}
use Rattle.frames.specs.declared.Width.TheVariants.{Bit, Word}
use Rattle.frames.specs.Fields.{function_field, quantity_field, up_to_quantity}
use Rattle.frames.specs.Limits.{quantity, bytes_for, request_length, reply_length}
use Rattle.slave.specs.Answer.{Shown, over, ReplyTo}

-- ---- frames

pub framed_length : (body : List ℕ) → length (framed body) ≡ length body + 2
framed_length body = length-append body (low_first (check_word body))

-- a right frame is its body with the check word behind it
pub right_framed : (frame : List ℕ) (n : ℕ) → Right frame → length frame ≡ n + 2 → framed (take n frame) ≡ frame
right_framed frame n right long =
    let at : length frame - 2 ≡ n = omega arith in
    ap (λ (word : List ℕ). take n frame ++ word) (sym (rw at at right.ends)) ∙ take-append-drop n frame

-- ---- a buffer that starts with a body

module _ (n : ℕ) (body before mid : List ℕ) (laid : mid ≡ body ++ drop n before) (size : length body ≡ n) where
  front : take n mid ≡ body
  front = ap (take n) laid ∙ take_at body (drop n before) n size

  behind : drop n mid ≡ drop n before
  behind = ap (drop n) laid ∙ drop_at body (drop n before) n size

  long_as_before : n ≤ length before → length mid ≡ length before
  long_as_before room = ap length laid ∙ length-append body (drop n before) ∙ omega (arith, length-drop n before)

  -- the check word is put behind it
  pub body_framed : (r : Bool) (after : List ℕ) → n + 2 ≤ length before → Put n mid r after → after ≡ over (framed body) before
  body_framed r after room put =
      let end : n + 2 ≡ length (framed body) = omega (arith, framed_length body) in
      attempt_done _ _ mid r after put (omega (arith, long_as_before (omega arith)))
      ∙ ap₂ (λ (b rest : List ℕ). framed b ++ rest) front (sym (drop-drop 2 n mid) ∙ ap (drop 2) behind ∙ drop-drop 2 n before)
      ∙ ap (λ (k : ℕ). framed body ++ drop k before) end

  -- the part behind it is lent, comes back filled, and what it is filled with belongs to the body
  pub body_more : (m : ℕ) (Shows : List ℕ → Type 0) (part : List ℕ) → Filled m Shows (take (length mid - n) (drop n mid)) part
      → take n mid ++ (part ++ drop (length mid - n) (drop n mid)) ≡ (body ++ take m part) ++ drop (n + m) before
  body_more m Shows part filled =
      let all : length (drop n mid) ≤ length mid - n = omega (arith, length-drop n mid) in
      let rest : drop m part ≡ drop (n + m) before =
      filled.rest ∙ ap (drop m) (take_all (length mid - n) (drop n mid) all ∙ behind) ∙ drop-drop m n before in
      ap₂ (λ (b xs : List ℕ). b ++ (part ++ xs)) front (drop_of_length-le (drop n mid) all)
      ∙ ap (λ (xs : List ℕ). body ++ xs) (append-nil part ∙ sym (take-append-drop m part))
      ∙ sym (append_assoc body (take m part) (drop m part))
      ∙ ap (λ (xs : List ℕ). (body ++ take m part) ++ xs) rest

-- ---- the addressed bits or words take the bytes that are counted

pub shown_length : (width : Width) (first count : ℕ) (image shown : List ℕ) → Shown width first count image shown
    → length shown ≡ bytes_for width count
shown_length Bit first count image shown packed = packed.size
shown_length Word first count image shown packed = packed.size

-- ---- how long a reply is

pub reply_length_lem : (own first : ℕ) (frame image : List ℕ) (act : Act) (width : Width) (bytes : List ℕ)
    → length frame ≡ request_length act frame → ReplyTo own first frame image act width bytes
    → length bytes ≡ reply_length act width (quantity act frame)
reply_length_lem own first frame image Read width bytes long (shown, are, is) =
    let body = own ∷ function_field frame ∷ bytes_for width (quantity_field frame) ∷ shown in
    let size = shown_length width first (quantity_field frame) image shown are in
    ap length is ∙ omega (arith, framed_length body, size)
reply_length_lem own first frame image WriteOne width bytes long is = ap length is ∙ long
reply_length_lem own first frame image WriteRun width bytes long is =
    ap length is ∙ omega (arith, framed_length (up_to_quantity frame), length-take-le 6 frame (omega arith))
