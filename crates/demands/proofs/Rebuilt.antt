-- A reply is rebuilt from its parts: what is sent, its check word, and its data.
-- Assumes nothing.
use mathlib.Core.Path.{◌≡◌, refl, sym, ap, ◌∙◌}
use mathlib.Core.List.{List, [], ◌∷◌, ◌++◌}
use Prim.Native.Nat.{ℕ, suc, ◌+◌, ◌-◌, ◌≤◌}
use native.Mathlib.Omega.{arith}
use lib.ListN.{length, take, drop, take-append-drop}
use lib.Seq.{length-take-le, take-take}
use Rattle.check_word.specs.Frame.{framed}
use Rattle.frames.specs.Fields.{byte}
use Rattle.slave.specs.Answer.{over}
use Rattle.slave.proofs.Reply.{right_framed}
use Rattle.demands.specs.Terms.{KeptBeyond, FrameOf, data_of}

-- a buffer is its first bytes written over what it was
pub written_over : (n : ℕ) (before after : List ℕ) → KeptBeyond n before after → after ≡ over (take n after) before
written_over n before after kept =
    let size = length-take-le n after (omega (arith, kept.room, kept.as_long)) in
    let beyond = kept.beyond ∙ ap (λ (k : ℕ). drop k before) (sym size) in
    sym (take-append-drop n after) ∙ ap (λ (rest : List ℕ). take n after ++ rest) beyond

-- the first three bytes, and what follows them
head_and_rest : (m : ℕ) (xs : List ℕ) → 3 ≤ length xs
    → take (suc (suc (suc m))) xs ≡ byte xs 0 ∷ byte xs 1 ∷ byte xs 2 ∷ take m (drop 3 xs)
head_and_rest m [] few = absurd (omega arith)
head_and_rest m (a ∷ []) few = absurd (omega arith)
head_and_rest m (a ∷ b ∷ []) few = absurd (omega arith)
head_and_rest m (a ∷ b ∷ c ∷ xs) few = refl

-- a frame is its station, its function, its third byte, what follows, and the check word of these
pub frame_is : (station function third m : ℕ) (frame : List ℕ) → FrameOf station function frame → byte frame 2 ≡ third
    → length frame ≡ 5 + m → frame ≡ framed (station ∷ function ∷ third ∷ take m (drop 3 frame))
frame_is station function third m frame is-frame is-third size =
    let body = head_and_rest m frame (omega (arith, size)) in
    let same : take (suc (suc (suc m))) frame ≡ station ∷ function ∷ third ∷ take m (drop 3 frame) =
    body ∙ (λ i. is-frame.from_station i ∷ is-frame.of_function i ∷ is-third i ∷ take m (drop 3 frame)) in
    sym (right_framed frame (suc (suc (suc m))) is-frame.right (omega (arith, size))) ∙ ap framed same

-- the data of a reply stand in what is sent
data_sent : (m : ℕ) (reply : List ℕ) → take m (drop 3 (take (suc (suc (suc (suc (suc m))))) reply)) ≡ take m (drop 3 reply)
data_sent m [] = refl
data_sent m (a ∷ []) = refl
data_sent m (a ∷ b ∷ []) = refl
data_sent m (a ∷ b ∷ c ∷ reply) = take-take m (suc (suc m)) reply (omega arith)

pub data_in_sent : (n m : ℕ) (reply : List ℕ) → n ≡ 5 + m → take m (drop 3 (take n reply)) ≡ data_of n reply
data_in_sent n m reply size =
    let up : n ≡ suc (suc (suc (suc (suc m)))) = omega (arith, size) in
    let down : m ≡ n - 5 = omega (arith, size) in
    ap (λ (k : ℕ). take m (drop 3 (take k reply))) up ∙ data_sent m reply ∙ ap (λ (k : ℕ). take k (drop 3 reply)) down
