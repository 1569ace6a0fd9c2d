-- The laws of the check word, each proved under its name in proofs/Laws.antt.
-- Assumes nothing.
use Rattle.std.specs.Prelude.{◌≡◌, Bool, true, false, List, [], ℕ, ◌+◌, length, take}
use Rattle.std.specs.Int.Bits.{bit_xor}
use Rattle.promise.specs.Promise.{Determined, Decides}
use Rattle.check_word.specs.CheckWord.{check_word, sum}
use Rattle.check_word.specs.Frame.{Bytes, framed, Right, Put}
use Rattle.check_word.specs.Line.{Damaged}

-- the check word of no bytes is FFFF hex
abbrev pub NoBytes : Type 0
NoBytes = check_word [] ≡ 0xffff

-- the check word is additive over three messages of equal length
abbrev pub Sum : Type 0
Sum = (a b c : List ℕ) → length a ≡ length b → length b ≡ length c
    → check_word (sum (sum a b) c) ≡ bit_xor (bit_xor (check_word a) (check_word b)) (check_word c)

-- a frame damaged by two flips, any odd number, or any number inside 16 neighbouring line bits has no right check word ..
abbrev pub Damage : Type 0
Damage = (f g : List ℕ) → Damaged f g → Right g → ⊥

-- .. and whatever `is_right` may answer to it, is no
abbrev pub DamageTold : Type 0
DamageTold = (f g : List ℕ) → Damaged f g → (r : Bool) → Decides (Right g) r → r ≡ false

-- a body with its check word behind it has a right check word
abbrev pub Framing : Type 0
Framing = (body : List ℕ) → Right (framed body)

-- bytes with their check word behind them are bytes
abbrev pub FramedBytes : Type 0
FramedBytes = (body : List ℕ) → Bytes body → Bytes (framed body)

-- once the check word was put behind the first n bytes of a buffer, the first n + 2 have a right check word
abbrev pub PutFraming : Type 0
PutFraming = (n : ℕ) (before after : List ℕ) → Put n before true after → Right (take (n + 2) after)

-- the promise of each public function determines its answer, and the buffer that was lent
abbrev pub CheckWordDetermined : Type 0
CheckWordDetermined = (bytes : List ℕ) → Determined (λ (r : ℕ). r ≡ check_word bytes)

abbrev pub IsRightDetermined : Type 0
IsRightDetermined = (frame : List ℕ) → Determined (Decides (Right frame))

abbrev pub PutCheckWordDetermined : Type 0
PutCheckWordDetermined = (n : ℕ) (before : List ℕ) → Determined (λ (a : Bool × List ℕ). Put n before a.0 a.1)
