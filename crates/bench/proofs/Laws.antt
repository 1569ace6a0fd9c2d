-- The laws of specs/Laws.antt, each under its name.
-- Assumes nothing.
use mathlib.Core.Path.{◌≡◌, refl, sym, ap, subst, ◌∙◌}
use mathlib.Core.Logic.{inl, inr}
use mathlib.Core.List.{List, [], ◌∷◌, ◌++◌, append_assoc, append-nil}
use Prim.Native.Nat.{ℕ, suc, ◌+◌}
use native.Mathlib.Omega.{arith}
use lib.ListN.{length, drop, length-append}
use lib.Seq.{drop-append-add}
use Rattle.slave.proofs.Laws.{RespondDetermined}
use Rattle.lines.specs.Lines.{line_feed, up_to_feed}
use Rattle.lines.specs.Outcomes.{as_line}
use Rattle.lines.proofs.Laws.{OneFrame}
use Rattle.lines.proofs.Feed.{feed_append}
use Rattle.bench.specs.Bench.{FrameAnswered, Answered}
use Rattle.bench.specs.Input.{Unfed, joined, Cut, AllAnswered}
use Rattle.bench.specs.Laws as laws
use Rattle.bench.proofs.Passing.{passed_then}

frame_answer : (frame image a b x y : List ℕ) → FrameAnswered frame image a x → FrameAnswered frame image b y
    → ◌≡◌ {A = List ℕ × List ℕ} (a, x) (b, y)
frame_answer frame image a b x y p q =
    let same = RespondDetermined _ p.answer q.answer p.allowed q.allowed in
    cc (same, p.registers, q.registers, p.written, q.written)

pub AnsweredDetermined : laws.AnsweredDetermined
unfolding Answered
AnsweredDetermined line image (a, x) (b, y) (inl (f, says, p)) (inl (g, also, q)) =
    frame_answer g image a b x y (rw (OneFrame line f g says also) at p) q
AnsweredDetermined line image (a, x) (b, y) (inl (f, says, p)) (inr (none, same, bad)) = absurd (none f says)
AnsweredDetermined line image (a, x) (b, y) (inr (none, same, bad)) (inl (g, also, q)) = absurd (none g also)
AnsweredDetermined line image (a, x) (b, y) (inr (none, same, bad)) (inr (none', same', bad')) = cc (same, same', bad, bad')

pub AllAnsweredDetermined : laws.AllAnsweredDetermined
unfolding AllAnswered
AllAnsweredDetermined [] image (a, x) (b, y) (same, none) (same', none') = cc (same, same', none, none')
AllAnsweredDetermined (line ∷ rest) image (a, x) (b, y) (m, t, ts, first, more, e) (n, u, us, first', more', e') =
    let one = AnsweredDetermined line image (m, t) (n, u) first first' in
    let between : m ≡ n = ap (λ (z : List ℕ × List ℕ). z.0) one in
    let text : t ≡ u = ap (λ (z : List ℕ × List ℕ). z.1) one in
    let from-there = subst (λ (z : List ℕ). AllAnswered rest z a ts) between more in
    let others = AllAnsweredDetermined rest n (a, ts) (b, us) from-there more' in
    let after : a ≡ b = ap (λ (z : List ℕ × List ℕ). z.0) others in
    let texts : ts ≡ us = ap (λ (z : List ℕ × List ℕ). z.1) others in
    cc (text, texts, after, e, e')

-- ---- lines

-- the first line of a text
first_line : (line rest : List ℕ) → Unfed line → up_to_feed (line ++ (line_feed ∷ rest)) ≡ line
unfolding up_to_feed
first_line line rest unfed = feed_append line (line_feed ∷ rest) unfed ∙ append-nil line

line_first : (line : List ℕ) (whole : List (List ℕ)) (begun : List ℕ)
    → joined (line ∷ whole) ++ begun ≡ line ++ (line_feed ∷ (joined whole ++ begun))
unfolding joined
line_first line whole begun =
    append_assoc (as_line line) (joined whole) begun ∙ append_assoc line (line_feed ∷ []) (joined whole ++ begun)

-- the first line of an input, and the lines behind it
module _ (input line : List ℕ) (whole : List (List ℕ)) (begun : List ℕ) (cut : Cut input (line ∷ whole) begun) where
  cut_is : input ≡ line ++ (line_feed ∷ (joined whole ++ begun))
  cut_is = cut.is ∙ line_first line whole begun

  cut_first : up_to_feed input ≡ line
  cut_first = ap up_to_feed cut_is ∙ first_line line (joined whole ++ begun) (cut.each_unfed 0)

  cut_behind : drop (length line + 1) input ≡ joined whole ++ begun
  cut_behind =
      ap (drop (length line + 1)) cut_is ∙ drop-append-add line (line_feed ∷ (joined whole ++ begun)) 1

  cut_rest : (rest : List ℕ) → rest ≡ joined whole ++ begun → Cut rest whole begun
  cut_rest rest is = record { is = is; each_unfed = λ n. cut.each_unfed (suc n); begun_unfed = cut.begun_unfed }

-- a text without a line feed has no whole line
no_line : (text line rest : List ℕ) → Unfed text → Unfed line → text ≡ line ++ (line_feed ∷ rest) → ⊥
no_line text line rest unfed line-unfed e =
    let short : text ≡ line = sym unfed ∙ ap up_to_feed e ∙ first_line line rest line-unfed in
    omega (arith, ap length (sym short ∙ e), length-append line (line_feed ∷ rest))

cut_alike : (input : List ℕ) (v w : List (List ℕ)) (x y : List ℕ) → Cut input v x → Cut input w y
    → ◌≡◌ {A = List (List ℕ) × List ℕ} (v, x) (w, y)
unfolding joined
cut_alike input [] [] x y p q = cc (p.is, q.is)
cut_alike input [] (l ∷ w) x y p q =
    absurd (no_line x l (joined w ++ y) p.begun_unfed (q.each_unfed 0) (sym p.is ∙ cut_is input l w y q))
cut_alike input (k ∷ v) [] x y p q =
    absurd (no_line y k (joined v ++ x) q.begun_unfed (p.each_unfed 0) (sym q.is ∙ cut_is input k v x p))
cut_alike input (k ∷ v) (l ∷ w) x y p q =
    let line : k ≡ l = sym (cut_first input k v x p) ∙ cut_first input l w y q in
    let rest : joined v ++ x ≡ joined w ++ y =
    sym (cut_behind input k v x p) ∙ ap (λ (t : List ℕ). drop (length t + 1) input) line ∙ cut_behind input l w y q in
    let behind : List ℕ = joined v ++ x in
    let more = cut_alike behind v w x y (cut_rest input k v x p behind refl) (cut_rest input l w y q behind rest) in
    let lines : v ≡ w = ap (λ (z : List (List ℕ) × List ℕ). z.0) more in
    let begun : x ≡ y = ap (λ (z : List (List ℕ) × List ℕ). z.1) more in
    cc (line, lines, begun)

pub CutDetermined : laws.CutDetermined
CutDetermined input (v, x) (w, y) p q = cut_alike input v w x y p q

pub InBlocks : laws.InBlocks
InBlocks = passed_then
