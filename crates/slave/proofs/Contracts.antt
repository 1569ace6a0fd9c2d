-- The laws on answers, of the contracts as the source has them: `a` are the arguments, `x` and `y` two outcomes, `s` and `t` the
-- parameters as the call leaves them. `a.0` is the station, `a.1.0` the areas, `a.1.1.0` the frame, `a.1.1.1.0` the
-- image, `a.1.1.1.1.0` the reply buffer.
-- Assumes nothing.
use mathlib.Core.Path.{◌≡◌, refl}
use mathlib.Core.List.{List}
use Prim.Native.Nat.{ℕ, ◌≤◌}
use lib.ListN.{length}
use seplogic.Ra.Ura.{Ura}
use base.Logic.{SProp, emp}
use prog.Memory.{Memory}
use prog.Routine.{Routine}
use types.Logic.{Logic}
use contract.Monad.{Fun, fact}
use denote.Triple.Entry.{Args}
use Rattle.promise.proofs.Promise.{equal_determined}
use Rattle.areas.specs.declared.Area.{Area}
use Rattle.areas.specs.Calls.{listed}
use Rattle.frames.specs.Limits.{quantity, reply_length}
use Rattle.slave.specs.declared.Station.{Station}
use Rattle.slave.specs.declared.Outcome.{Outcome}
use Rattle.slave.specs.declared.Outcome.TheVariants.{Reply}
use Rattle.slave.specs.Conditions.{OfFunction}
use Rattle.slave.specs.Answer.{Call, Answer, Respond}
use Rattle.slave.specs.Laws as laws-of
use Rattle.slave.proofs.Laws as laws
use Rattle.slave.specs.contracts.respond as respond
use Rattle.slave.specs.contracts.respond_by_value as respond_by_value
use Rattle.slave.proofs.respond_to_words.Reads as to-words
use Rattle.slave.proofs.respond_by_value.Reads as by_value
use Rattle.slave.proofs.to_send.Reads as to-send
use Rattle.slave.proofs.U8FromRefusal.from.Reads as refusal-number
use Rattle.slave.proofs.U8FromSilence.from.Reads as silence-number

abbrev call_of : Station → List Area → List ℕ → List ℕ → List ℕ → Call
call_of station areas frame image reply = record { station = station; areas = areas; frame = frame; image = image; reply = reply }

abbrev answer_of : Outcome → List ℕ → List ℕ → Answer
answer_of outcome image reply = record { outcome = outcome; image = image; reply = reply }

-- ---- `respond`: what it ensures is `Promised`, and it requires nothing

abbrev pub Promised : (κs : _) → Args respond.signature κs → Outcome → List ℕ → List ℕ → Type 0
Promised κs a = Respond a.0 a.1.0.now a.1.1.0.now a.1.1.1.0.now a.1.1.1.1.0.now

respond_ensures : {M : Type 1} {𝓤 : Ura M} (𝓛 : Logic 𝓤) (mem : Memory → SProp 𝓤) (run : Routine → Fun 𝓤)
    (κs : _) (a : _) (x : Outcome) (s : _)
    → (respond.clauses 𝓛 mem run κs a).ensures tt x s
    ≡ fact 𝓤 (Promised κs a x s.1.1.1.0.now s.1.1.1.1.0.now)
respond_ensures 𝓛 mem run κs a x s = refl

respond_takes : {M : Type 1} {𝓤 : Ura M} (𝓛 : Logic 𝓤) (mem : Memory → SProp 𝓤) (run : Routine → Fun 𝓤)
    (κs : _) (a : _) → (respond.clauses 𝓛 mem run κs a).requires tt ≡ emp 𝓤
respond_takes 𝓛 mem run κs a = refl

abbrev lent_call : (κs : _) → Args respond.signature κs → Call
lent_call κs a = call_of a.0 a.1.0.now a.1.1.0.now a.1.1.1.0.now a.1.1.1.1.0.now

-- it determines outcome, image and reply buffer
respond_determined : (κs : _) (a : Args respond.signature κs) (x y : Outcome) (image_x reply_x image_y reply_y : List ℕ)
    → Promised κs a x image_x reply_x → Promised κs a y image_y reply_y → answer_of x image_x reply_x ≡ answer_of y image_y reply_y
respond_determined κs a x y image_x reply_x image_y reply_y =
    laws.RespondDetermined (lent_call κs a) (answer_of x image_x reply_x) (answer_of y image_y reply_y)

-- the length that is told with a reply
respond_reply_length : (κs : _) (a : Args respond.signature κs) (x : Outcome) (image reply : List ℕ) → Promised κs a x image reply
    → (n : ℕ) → x ≡ Reply n
    → OfFunction a.1.1.0.now (λ act width. n ≡ reply_length act width (quantity act a.1.1.0.now)) × (6 ≤ n) × (n ≤ 165)
respond_reply_length κs a x image reply = laws.ReplyLength (lent_call κs a) (answer_of x image reply)

-- the length of a request that is accepted
respond_accepted_length : (κs : _) (a : Args respond.signature κs) (x : Outcome) (image reply : List ℕ) → Promised κs a x image reply
    → (n : ℕ) → x ≡ Reply n → (8 ≤ length a.1.1.0.now) × (length a.1.1.0.now ≤ 169)
respond_accepted_length κs a x image reply = laws.AcceptedLength (lent_call κs a) (answer_of x image reply)

-- ---- `respond_to_words` (`Post` is what a function ensures, `Pre` what it requires)

-- it determines outcome, image and reply buffer
to_words_determined : (κs : _) (a : _) (x y : Outcome) (s t : _) → to-words.Post κs a x s → to-words.Post κs a y t
    → answer_of x s.1.1.1.0.now s.1.1.1.1.0.now ≡ answer_of y t.1.1.1.0.now t.1.1.1.1.0.now
to_words_determined κs a x y s t =
    laws.RespondToWordsDetermined a.0 a.1.0.now a.1.1.0.now a.1.1.1.0.now a.1.1.1.1.0.now
    (answer_of x s.1.1.1.0.now s.1.1.1.1.0.now) (answer_of y t.1.1.1.0.now t.1.1.1.1.0.now)

-- it takes any arguments
to_words_takes : (κs : _) (a : _) → to-words.Pre κs a
to_words_takes κs a = tt

-- ---- `respond_by_value`

-- what it ensures is `Respond` of the areas of its list, the first of its entries: `a.1.0` is the list
respond_by_value_ensures : {M : Type 1} {𝓤 : Ura M} (𝓛 : Logic 𝓤) (mem : Memory → SProp 𝓤) (run : Routine → Fun 𝓤)
    (κs : _) (a : _) (x : Outcome) (s : _)
    → (respond_by_value.clauses 𝓛 mem run κs a).ensures tt x s
    ≡ fact 𝓤 (Respond a.0 (listed a.1.0) a.1.1.0.now a.1.1.1.0.now a.1.1.1.1.0.now x s.1.1.1.0.now s.1.1.1.1.0.now)
respond_by_value_ensures 𝓛 mem run κs a x s = refl

-- it determines outcome, image and reply buffer
by_value_determined : (κs : _) (a : _) (x y : Outcome) (s t : _) → by_value.Post κs a x s → by_value.Post κs a y t
    → answer_of x s.1.1.1.0.now s.1.1.1.1.0.now ≡ answer_of y t.1.1.1.0.now t.1.1.1.1.0.now
by_value_determined κs a x y s t =
    laws.RespondDetermined (call_of a.0 (listed a.1.0) a.1.1.0.now a.1.1.1.0.now a.1.1.1.1.0.now)
    (answer_of x s.1.1.1.0.now s.1.1.1.1.0.now) (answer_of y t.1.1.1.0.now t.1.1.1.1.0.now)

-- it takes any arguments
by_value_takes : (κs : _) (a : _) → by_value.Pre κs a
by_value_takes κs a = tt

-- it answers as `respond` does, where its list stands for the areas that `respond` is lent and the rest is the same
by_value_as_lent : (κs : _) (a : _) (y : Outcome) (t : _) → by_value.Post κs a y t
    → (areas : List Area) → laws-of.StandsFor a.1.0 areas → (x : Outcome) (image reply : List ℕ)
    → Respond a.0 areas a.1.1.0.now a.1.1.1.0.now a.1.1.1.1.0.now x image reply
    → (x ≡ y) × (image ≡ t.1.1.1.0.now) × (reply ≡ t.1.1.1.1.0.now)
by_value_as_lent κs a y t post areas stands x image reply lent =
    laws.LentOrByValue a.0 areas a.1.0 stands a.1.1.0.now a.1.1.1.0.now a.1.1.1.1.0.now x y
    image reply t.1.1.1.0.now t.1.1.1.1.0.now lent post

-- ---- the functions that tell lengths and numbers

to_send_determined : (κs : _) (a : _) (x y : ℕ) (s t : _) → to-send.Post κs a x s → to-send.Post κs a y t → x ≡ y
to_send_determined κs a x y s t = equal_determined _ x y

refusal_number_determined : (κs : _) (a : _) (x y : ℕ) (s t : _) → refusal-number.Post κs a x s → refusal-number.Post κs a y t
    → x ≡ y
refusal_number_determined κs a x y s t = equal_determined _ x y

silence_number_determined : (κs : _) (a : _) (x y : ℕ) (s t : _) → silence-number.Post κs a x s → silence-number.Post κs a y t
    → x ≡ y
silence_number_determined κs a x y s t = equal_determined _ x y

to_send_takes : (κs : _) (a : _) → to-send.Pre κs a
to_send_takes κs a = tt

refusal_number_takes : (κs : _) (a : _) → refusal-number.Pre κs a
refusal_number_takes κs a = tt

silence_number_takes : (κs : _) (a : _) → silence-number.Pre κs a
silence_number_takes κs a = tt
