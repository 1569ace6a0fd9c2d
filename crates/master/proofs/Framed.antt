-- Frames: how long they are, and a body at the start of a buffer that gets its check word.
-- Assumes nothing.
use mathlib.Core.Path.{◌≡◌, sym}
use mathlib.Core.Bool.{true}
use mathlib.Core.List.{List, ◌++◌}
use Prim.Native.Nat.{ℕ, ◌+◌}
use lib.ListN.{length, drop, length-append}
use lib.Seq.{take-append_seam, drop-append-add, drop-drop}
use Rattle.promise.specs.Promise.{Attempt}
use Rattle.check_word.specs.CheckWord.{check_word}
use Rattle.check_word.specs.Frame.{low_first, framed, Put}

pub framed_length : (body : List ℕ) → length (framed body) ≡ length body + 2
framed_length body = length-append body (low_first (check_word body))

pub body_framed : (n : ℕ) (body before mid after : List ℕ) → mid ≡ body ++ drop n before → length body ≡ n → Put n mid true after
    → after ≡ framed body ++ drop (length (framed body)) before
unfolding Attempt
body_framed n body before mid after laid size put =
    rw (laid, sym size, take-append_seam, drop-append-add, drop-drop, sym (framed_length body)) at put.1
