-- One call has one answer.
-- Assumes nothing.
use mathlib.Core.Path.{◌≡◌, refl, sym, ap, subst, ◌∙◌}
use mathlib.Core.List.{List, ◌∷◌}
use Rattle.std.specs.Prelude.{Option, Some, None}
use Prim.Native.Nat.{ℕ, ◌<◌}
use native.Mathlib.Omega.{arith}
use lib.Dec.{eqb}
use lib.ListN.{length}
use Rattle.promise.specs.Promise.{Determined}
use Rattle.promise.proofs.Promise.{equal_determined}
use Rattle.check_word.specs.Frame.{framed}
use Rattle.registers.specs.Memory.{image_word, image_bit, from}
use Rattle.registers.specs.Packing.{packed_bit, packed_word}
use Rattle.registers.specs.Calls.{bit_value}
use Rattle.registers.proofs.Laws as registers-laws
use Rattle.frames.specs.declared.Act.{Act}
use Rattle.frames.specs.declared.Act.TheVariants.{Read, WriteOne, WriteRun}
use Rattle.frames.specs.declared.Width.{Width}
use Rattle.frames.specs.declared.Width.TheVariants.{Bit, Word}
use Rattle.frames.specs.Fields.{function_field, quantity_field, value_field, data_field}
use Rattle.frames.specs.Functions.{function_of}
use Rattle.frames.specs.Limits.{bytes_for, on}
use Rattle.slave.specs.declared.Station.{Station}
use Rattle.slave.specs.declared.Outcome.{Outcome}
use Rattle.slave.specs.declared.Outcome.TheVariants.{Refused, Silent, Exception, Reply}
use Rattle.slave.specs.Numbers.{kind_of}
use Rattle.slave.specs.Conditions.{OfFound, first_addressed}
use Rattle.slave.specs.Table.{table}
use Rattle.slave.specs.Answer.{Shown, StoredOne, StoredRun, over, ReplyTo, ImageAfter, Done, Leaves, Call, Answers}
use Rattle.slave.proofs.Cases.{kind_place, apart}
use Rattle.slave.proofs.Reasons.{same_told}
use Rattle.slave.proofs.Lines.{first_determined}

-- ---- what an accepted request leaves

shown_determined : (width : Width) (first count : ℕ) (image : List ℕ) → Determined (Shown width first count image)
shown_determined Bit first count image = registers-laws.BitsPackedDetermined count (from first (image_bit image))
shown_determined Word first count image = registers-laws.WordsPackedDetermined count (from first (image_word image))

stored_one_determined : (width : Width) (first value : ℕ) (before : List ℕ) → Determined (StoredOne width first value before)
stored_one_determined Bit first value = registers-laws.BitsStoredDetermined first 1 (λ n. bit_value (eqb value on))
stored_one_determined Word first value = registers-laws.WordsStoredDetermined first 1 (λ n. value)

stored_run_determined : (width : Width) (first count : ℕ) (bytes before : List ℕ)
    → Determined (StoredRun width first count bytes before)
stored_run_determined Bit first count bytes = registers-laws.BitsStoredDetermined first count (packed_bit bytes)
stored_run_determined Word first count bytes = registers-laws.WordsStoredDetermined first count (packed_word bytes)

module _ (own first : ℕ) (frame image : List ℕ) where
  reply_determined : (act : Act) (width : Width) → Determined (ReplyTo own first frame image act width)
  reply_determined Read width a b p q =
      let same = shown_determined width first (quantity_field frame) image p.0 q.0 p.1 q.1 in
      p.2 ∙ ap (λ (shown : List ℕ). framed (own ∷ function_field frame ∷ bytes_for width (quantity_field frame) ∷ shown)) same
      ∙ sym q.2
  reply_determined WriteOne width a b p q = p ∙ sym q
  reply_determined WriteRun width a b p q = p ∙ sym q

  image_determined : (act : Act) (width : Width) → Determined (ImageAfter first frame image act width)
  image_determined Read width a b = equal_determined image a b
  image_determined WriteOne width a b = stored_one_determined width first (value_field frame) image a b
  image_determined WriteRun width a b = stored_run_determined width first (quantity_field frame) (data_field frame) image a b

  done_determined : (reply : List ℕ) (act : Act) (width : Width) (n m : ℕ) (i j r s : List ℕ) → Done own first frame image reply act width n i r
      → Done own first frame image reply act width m j s → (n ≡ m) × (i ≡ j) × (r ≡ s)
  done_determined reply act width n m i j r s p q =
      let same = reply_determined act width p.bytes q.bytes p.are_the_reply q.are_the_reply in (
        p.told ∙ ap length same ∙ sym q.told,
        image_determined act width i j p.stored q.stored,
        p.written ∙ ap (λ (bytes : List ℕ). over bytes reply) same ∙ sym q.written,
      )

-- ---- what any outcome leaves

module _ (station : Station) (frame image reply : List ℕ) where
  abbrev Left : Outcome → List ℕ → List ℕ → Type 0
  Left = Leaves station frame image reply

  found_determined : (lookup : Option (Act × Width)) (n m : ℕ) (i j r s : List ℕ)
      → OfFound lookup (λ act width. Done station.own (first_addressed station frame) frame image reply act width n i r)
      → OfFound lookup (λ act width. Done station.own (first_addressed station frame) frame image reply act width m j s)
      → (n ≡ m) × (i ≡ j) × (r ≡ s)
  found_determined (Some (act, width)) n m i j r s p q =
      done_determined station.own (first_addressed station frame) frame image reply act width n m i j r s p q
  found_determined None n m i j r s p q = absurd p

  -- an outcome that fixes image and reply buffer
  fixed : (a b : Outcome) (image' reply' i j r s : List ℕ)
      → ((image_after reply_after : List ℕ) → Left a image_after reply_after → (image_after ≡ image') × (reply_after ≡ reply'))
      → kind_place (kind_of a) < 3 → kind_of a ≡ kind_of b → Left a i r → Left b j s → (a ≡ b) × (i ≡ j) × (r ≡ s)
  fixed a b image' reply' i j r s fixes other e p q =
      let same = same_told a b other e in
      let one = fixes i r p in
      let two = fixes j s (subst (λ (outcome : Outcome). Left outcome j s) (sym same) q) in
      (same, one.0 ∙ sym two.0, one.1 ∙ sym two.1)

  same_outcome : (a b : Outcome) (i j r s : List ℕ) → kind_of a ≡ kind_of b → Left a i r → Left b j s → (a ≡ b) × (i ≡ j) × (r ≡ s)
  same_outcome (Refused a) b i j r s = fixed (Refused a) b _ _ i j r s (λ image' reply' p. p) (omega arith)
  same_outcome (Silent a) b i j r s = fixed (Silent a) b _ _ i j r s (λ image' reply' p. p) (omega arith)
  same_outcome (Exception a) b i j r s = fixed (Exception a) b _ _ i j r s (λ image' reply' p. p) (omega arith)
  same_outcome (Reply n) (Reply m) i j r s = λ e p q.
      let same = found_determined (function_of (function_field frame)) n m i j r s p q in
      (ap Reply same.0, same.1, same.2)
  same_outcome (Reply n) (Refused b) i j r s = λ e p q. absurd (apart kind_place e refl (omega arith))
  same_outcome (Reply n) (Silent b) i j r s = λ e p q. absurd (apart kind_place e refl (omega arith))
  same_outcome (Reply n) (Exception b) i j r s = λ e p q. absurd (apart kind_place e refl (omega arith))

pub answers_determined : (call : Call) → Determined (Answers call)
answers_determined call a b p q =
    let lines = table call.station call.areas (length call.image) (length call.reply) call.frame in
    let kinds = first_determined lines (kind_of a.outcome) (kind_of b.outcome) p.decided q.decided in
    let same = same_outcome call.station call.frame call.image call.reply a.outcome b.outcome
    a.image b.image a.reply b.reply kinds p.left q.left in
    λ i. record { outcome = same.0 i; image = same.1 i; reply = same.2 i }
