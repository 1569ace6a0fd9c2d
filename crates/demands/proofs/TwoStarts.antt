-- One request with two start addresses, each with its own right check word: what else a slave looks at is the same in both.
-- Assumes nothing.
use mathlib.Core.Path.{◌≡◌, refl, sym, ap, ap₂, ◌∙◌}
use mathlib.Core.Logic.{inl, inr}
use mathlib.Core.List.{List, [], ◌∷◌}
use Prim.Native.Nat.{ℕ, zero, suc, ◌+◌, ◌/◌, ◌%◌, ◌≤◌, ◌<◌}
use native.Mathlib.Omega.{arith}
use lib.ListN.{length, take, drop, length-drop, get_or-append}
use lib.Seq.{take-append-le, drop-append-le}
use Rattle.check_word.specs.CheckWord.{check_word}
use Rattle.check_word.specs.Frame.{low_first, framed, Right}
use Rattle.check_word.proofs.Laws as check-word
use Rattle.registers.specs.Packing.{high_first}
use Rattle.frames.specs.declared.Act.{Act}
use Rattle.frames.specs.declared.Act.TheVariants.{Read, WriteOne, WriteRun}
use Rattle.frames.specs.Fields.{byte, number, start_field, quantity_field, byte_count_field, data_field, up_to_quantity}
use Rattle.frames.specs.Limits.{quantity, request_length}
use Rattle.slave.specs.Answer.{over}
use Rattle.slave.proofs.Reply.{framed_length}
use Rattle.demands.specs.Terms.{request, StartOrCheckWord}

-- ---- the reply to a write

-- two replies that differ in the start (bytes 2 and 3) and in the check word (6 and 7) alone
module _ (a f c c' d d' x y l l' h h' : ℕ) (buffer : List ℕ) where
  elsewhere : (i : ℕ) → (StartOrCheckWord i → ⊥)
      → byte (a ∷ f ∷ c ∷ d ∷ x ∷ y ∷ l ∷ h ∷ buffer) i ≡ byte (a ∷ f ∷ c' ∷ d' ∷ x ∷ y ∷ l' ∷ h' ∷ buffer) i
  elsewhere zero out = refl
  elsewhere (suc zero) out = refl
  elsewhere (suc (suc zero)) out = absurd (out (inl (omega arith, omega arith)))
  elsewhere (suc (suc (suc zero))) out = absurd (out (inl (omega arith, omega arith)))
  elsewhere (suc (suc (suc (suc zero)))) out = refl
  elsewhere (suc (suc (suc (suc (suc zero))))) out = refl
  elsewhere (suc (suc (suc (suc (suc (suc zero)))))) out = absurd (out (inr (omega arith, omega arith)))
  elsewhere (suc (suc (suc (suc (suc (suc (suc zero))))))) out = absurd (out (inr (omega arith, omega arith)))
  elsewhere (suc (suc (suc (suc (suc (suc (suc (suc i)))))))) out = refl

-- echoes of the request are equally long, and agree but for the start and their check words
pub echoes_as_long : (a f s t : ℕ) (rest buffer : List ℕ) → 2 ≤ length rest
    → length (over (framed (up_to_quantity (request a f s rest))) buffer)
    ≡ length (over (framed (up_to_quantity (request a f t rest))) buffer)
echoes_as_long a f s t [] buffer few = absurd (omega arith)
echoes_as_long a f s t (x ∷ []) buffer few = absurd (omega arith)
echoes_as_long a f s t (x ∷ y ∷ more) buffer few = refl

pub echoes_agree : (a f s t : ℕ) (rest buffer : List ℕ) → 2 ≤ length rest → (i : ℕ) → (StartOrCheckWord i → ⊥)
    → byte (over (framed (up_to_quantity (request a f s rest))) buffer) i
    ≡ byte (over (framed (up_to_quantity (request a f t rest))) buffer) i
echoes_agree a f s t [] buffer few i out = absurd (omega arith)
echoes_agree a f s t (x ∷ []) buffer few i out = absurd (omega arith)
echoes_agree a f s t (x ∷ y ∷ more) buffer few i out = elsewhere a f _ _ _ _ x y _ _ _ _ (drop 8 buffer) i out

-- address a, function f, and whatever follows the start
module _ (a f : ℕ) (rest : List ℕ) where
  abbrev from : ℕ → List ℕ
  from s = request a f s rest

  pub restarted_right : (s : ℕ) → Right (from s)
  restarted_right s = check-word.Framing (a ∷ f ∷ s / 256 ∷ s % 256 ∷ rest)

  pub restarted_length : (s : ℕ) → length (from s) ≡ length rest + 6
  restarted_length s = framed_length (a ∷ f ∷ s / 256 ∷ s % 256 ∷ rest) ∙ omega arith

  pub restarted_start : (s : ℕ) → start_field (from s) ≡ s
  unfolding number
  restarted_start s = omega arith

  -- what stands behind the start
  abbrev word : ℕ → List ℕ
  word s = low_first (check_word (a ∷ f ∷ s / 256 ∷ s % 256 ∷ rest))

  data_behind : (s : ℕ) → length rest ≡ 3 + byte_count_field (from s)
      → data_field (from s) ≡ take (byte_count_field (from s)) (drop 3 rest)
  data_behind s size =
      ap (take (byte_count_field (from s))) (drop-append-le 3 rest (word s) (omega (arith, size)))
      ∙ take-append-le (byte_count_field (from s)) (drop 3 rest) (word s) (omega (arith, size, length-drop 3 rest))

  abbrev pub Long : Act → ℕ → Type 0
  Long act s = length (from s) ≡ request_length act (from s)

  pub long_enough : (act : Act) (s : ℕ) → Long act s → 2 ≤ length rest
  long_enough Read s long = omega (arith, long, restarted_length s)
  long_enough WriteOne s long = omega (arith, long, restarted_length s)
  long_enough WriteRun s long = omega (arith, long, restarted_length s)

  -- a frame as long as its function asks has all fields that its function has, and then they are the same
  module _ (s t : ℕ) where
    same_byte : (i : ℕ) → i < length rest → byte (drop 4 (from s)) i ≡ byte (drop 4 (from t)) i
    same_byte i h = get_or-append rest (word s) 0 i h ∙ sym (get_or-append rest (word t) 0 i h)

    pub quantity_over : (act : Act) → Long act s → quantity_field (from s) ≡ quantity_field (from t)
    unfolding number
    quantity_over act long =
        let enough = long_enough act s long in
        ap₂ high_first (same_byte 0 (omega arith)) (same_byte 1 (omega arith))

    pub count_over : (act : Act) → Long act s → quantity act (from s) ≡ quantity act (from t)
    count_over Read long = quantity_over Read long
    count_over WriteOne long = refl
    count_over WriteRun long = quantity_over WriteRun long

    pub byte_count_over : Long WriteRun s → byte_count_field (from s) ≡ byte_count_field (from t)
    byte_count_over long = same_byte 2 (omega (arith, long, restarted_length s))

    pub data_over : Long WriteRun s → data_field (from s) ≡ data_field (from t)
    data_over long =
        let size : length rest ≡ 3 + byte_count_field (from s) = omega (arith, long, restarted_length s) in
        let bytes = byte_count_over long in
        data_behind s size ∙ ap (λ (n : ℕ). take n (drop 3 rest)) bytes ∙ sym (data_behind t (omega (arith, size, bytes)))

    pub long_over : (act : Act) → Long act s → Long act t
    long_over Read long = omega (arith, long, restarted_length s, restarted_length t)
    long_over WriteOne long = omega (arith, long, restarted_length s, restarted_length t)
    long_over WriteRun long = omega (arith, long, byte_count_over long, restarted_length s, restarted_length t)
