-- Frames: a check word is right where it cannot be wrong, and a right frame is rebuilt from its bytes.
-- Assumes nothing.
use mathlib.Core.Path.{◌≡◌, refl, sym, ap, ◌∙◌}
use mathlib.Core.Logic.Dec
use mathlib.Core.List.{List, [], ◌∷◌, ◌++◌, List-discrete}
use Prim.Native.Nat.{ℕ, suc, ◌+◌, ◌-◌, ◌/◌, ◌%◌, ◌≤◌}
use native.Mathlib.Decide.{ℕ_discrete, dec_le, map_dec}
use native.Mathlib.Omega.{arith}
use lib.ListN.{length, take, drop, length-drop, take-append-drop}
use lib.Seq.{get_or-drop}
use Rattle.check_word.specs.CheckWord.{check_word}
use Rattle.check_word.specs.Frame.{Bytes, low_first, framed, Right}
use Rattle.frames.specs.Fields.{byte, number, station_field, function_field}

-- ---- a check word that is not wrong is right

dec_right : (frame : List ℕ) → Dec (Right frame)
dec_right frame =
    let n = length frame - 2 in
    map_dec (λ both. record { enough = both.0; ends = both.1 }) (λ right. (right.enough, right.ends))
    (Dec.and (dec_le 2 (length frame)) (List-discrete ℕ_discrete (drop n frame) (low_first (check_word (take n frame)))))

pub not_wrong_right : (frame : List ℕ) → ((Right frame → ⊥) → ⊥) → Right frame
not_wrong_right frame = (Dec.not-not (dec_right frame)).0

-- ---- a right frame is its bytes

-- its body with the check word behind it
right_framed : (frame : List ℕ) (n : ℕ) → Right frame → length frame ≡ n + 2 → framed (take n frame) ≡ frame
right_framed frame n right long =
    let at : length frame - 2 ≡ n = omega arith in
    ap (λ (word : List ℕ). take n frame ++ word) (sym (rw at at right.ends)) ∙ take-append-drop n frame

-- the first three bytes, and what follows them
head_and_rest : (m : ℕ) (xs : List ℕ) → 3 ≤ length xs
    → take (suc (suc (suc m))) xs ≡ byte xs 0 ∷ byte xs 1 ∷ byte xs 2 ∷ take m (drop 3 xs)
head_and_rest m [] few = absurd (omega arith)
head_and_rest m (a ∷ []) few = absurd (omega arith)
head_and_rest m (a ∷ b ∷ []) few = absurd (omega arith)
head_and_rest m (a ∷ b ∷ c ∷ xs) few = refl

-- station, function, a third byte and what follows it
pub frame_is : (frame : List ℕ) (station function third m : ℕ) → Right frame → station_field frame ≡ station
    → function_field frame ≡ function → byte frame 2 ≡ third → length frame ≡ 5 + m
    → frame ≡ framed (station ∷ function ∷ third ∷ take m (drop 3 frame))
frame_is frame station function third m right is-station is-function is-third long =
    sym (right_framed frame (suc (suc (suc m))) right (omega (arith, long)))
    ∙ ap framed (head_and_rest m frame (omega (arith, long)))
    ∙ ap framed (λ i. is-station i ∷ is-function i ∷ is-third i ∷ take m (drop 3 frame))

-- the two bytes of a number
two_bytes : (bytes : List ℕ) (i value : ℕ) → Bytes bytes → number bytes i ≡ value
    → (byte bytes i ≡ value / 256) × (byte bytes (i + 1) ≡ value % 256)
unfolding number
two_bytes bytes i value small is = (omega (arith, is, small (i + 1)), omega (arith, is, small (i + 1)))

-- station, function, and two numbers
pub echo_is : (frame : List ℕ) (station function first second : ℕ) → Right frame → Bytes frame → station_field frame ≡ station
    → function_field frame ≡ function → number frame 2 ≡ first → number frame 4 ≡ second → length frame ≡ 8
    → frame ≡ framed (station ∷ function ∷ first / 256 ∷ first % 256 ∷ second / 256 ∷ second % 256 ∷ [])
echo_is frame station function first second right small is-station is-function is-first is-second long =
    let (a, b) = two_bytes frame 2 first small is-first in
    let (c, d) = two_bytes frame 4 second small is-second in
    let enough : 3 ≤ length (drop 3 frame) = omega (arith, length-drop 3 frame, long) in
    let rest : take 3 (drop 3 frame) ≡ first % 256 ∷ second / 256 ∷ second % 256 ∷ [] =
    head_and_rest 0 (drop 3 frame) enough
    ∙ (λ i. (get_or-drop 3 frame 0 0 ∙ b) i ∷ (get_or-drop 3 frame 1 0 ∙ c) i ∷ (get_or-drop 3 frame 2 0 ∙ d) i ∷ []) in
    frame_is frame station function (first / 256) 3 right is-station is-function a long
    ∙ ap (λ (xs : List ℕ). framed (station ∷ function ∷ first / 256 ∷ xs)) rest
