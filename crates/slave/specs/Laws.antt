-- The laws of the slave, each proved under its name in proofs/Laws.antt.
-- Assumes nothing.
use Rattle.std.specs.Prelude.{◌≡◌, ◌⊎◌, List, ℕ, ◌≤◌, ◌<◌, length}
use Rattle.promise.specs.Promise.{Determined}
use Rattle.areas.specs.declared.Area.{Area}
use Rattle.areas.specs.declared.AreaList.{AreaList}
use Rattle.areas.specs.Rules.{most_areas}
use Rattle.areas.specs.Calls.{list_entries, listed}
use Rattle.frames.specs.Limits.{quantity, reply_length}
use Rattle.slave.specs.declared.Station.{Station}
use Rattle.slave.specs.declared.Refusal.{Refusal}
use Rattle.slave.specs.declared.Silence.{Silence}
use Rattle.slave.specs.declared.Outcome.{Outcome}
use Rattle.slave.specs.declared.Outcome.TheVariants.{Reply}
use Rattle.slave.specs.Numbers.{refusal_number, silence_number}
use Rattle.slave.specs.Conditions.{OfFunction}
use Rattle.slave.specs.Answer.{Call, Answer, Answers, Respond}
use Rattle.slave.specs.Words.{RespondToWords}

-- any two answers that the promise allows for one call coincide: outcome, image and reply buffer
abbrev pub RespondDetermined : Type 0
RespondDetermined = (call : Call) → Determined (Answers call)

-- the same with the areas as words
abbrev pub RespondToWordsDetermined : Type 0
RespondToWordsDetermined = (station : Station) (area_words frame image reply : List ℕ)
    → Determined (λ (a : Answer). RespondToWords station area_words frame image reply a.outcome a.image a.reply)

-- a list by value stands for a list that is lent: it has the same areas, or both have too many. For each list that can be lent
-- there is one by value that stands for it ..
abbrev pub StandsFor : AreaList → List Area → Type 0
StandsFor list areas = (listed list ≡ areas) ⊎ ((most_areas < length (listed list)) × (most_areas < length areas))

abbrev pub OneStandsFor : Type 0
OneStandsFor = (areas : List Area) → (list : AreaList) × (length list.entries ≡ list_entries) × StandsFor list areas

-- .. and the lent call and the call by value answer alike
abbrev pub LentOrByValue : Type 0
LentOrByValue = (station : Station) (areas : List Area) (list : AreaList) → StandsFor list areas → (frame image reply : List ℕ)
    → (x y : Outcome) (image_x reply_x image_y reply_y : List ℕ)
    → Respond station areas frame image reply x image_x reply_x → Respond station (listed list) frame image reply y image_y reply_y
    → (x ≡ y) × (image_x ≡ image_y) × (reply_x ≡ reply_y)

-- each refusal, and each silence, has a number of its own
abbrev pub RefusalsApart : Type 0
RefusalsApart = (a b : Refusal) → refusal_number a ≡ refusal_number b → a ≡ b

abbrev pub SilencesApart : Type 0
SilencesApart = (a b : Silence) → silence_number a ≡ silence_number b → a ≡ b

-- the length that is told with a reply is the frame table's: 6 to 165 bytes
abbrev pub ReplyLength : Type 0
ReplyLength = (call : Call) (answer : Answer) → Answers call answer → (n : ℕ) → answer.outcome ≡ Reply n
    → OfFunction call.frame (λ act width. n ≡ reply_length act width (quantity act call.frame)) × (6 ≤ n) × (n ≤ 165)

-- a request that is accepted has 8 to 169 bytes
abbrev pub AcceptedLength : Type 0
AcceptedLength = (call : Call) (answer : Answer) → Answers call answer → (n : ℕ) → answer.outcome ≡ Reply n
    → (8 ≤ length call.frame) × (length call.frame ≤ 169)
