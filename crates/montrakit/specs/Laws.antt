-- The laws of the face, each proved under its name in proofs/Laws.antt.
-- Assumes nothing.
use Rattle.std.specs.Prelude.{◌≡◌, ◌⊎◌, ◌≢◌, ◌↔◌, List, [], ◌∷◌, Result, ℕ, ◌+◌, ◌*◌, ◌%◌, ◌≤◌, ◌<◌, length, get_or}
use Rattle.promise.specs.Promise.{Determined}
use Rattle.check_word.specs.Line.{Damaged}
use Rattle.areas.specs.declared.Area.{Area}
use Rattle.areas.specs.Words.{access_word, MeansNothing, area_words, OfNoList}
use Rattle.frames.specs.Exceptions.{exception_length}
use Rattle.slave.specs.declared.Outcome.{Outcome}
use Rattle.slave.specs.Conditions.{most_image_words}
use Rattle.slave.specs.Answer.{to_send}
use Rattle.master.specs.declared.Refusal.{Refusal}
use Rattle.master.specs.declared.Reading.{Reading}
use Rattle.master.specs.Refusals.{Line, RefusedBy}
use Rattle.demands.specs.Terms.{KeptBeyond}
use Rattle.montrakit.specs.Results.{result, kind_in, number_in, most_number, refused, silent, exception, reply, bad_argument, outcome_result, built_result, reading_result, bytes_built, bytes_read}
use Rattle.montrakit.specs.Responding.{Respond}
use Rattle.montrakit.specs.Mastering.{Build, Read}

-- ---- any two answers that a promise allows for one call coincide: what is told, and what is left in the lent buffers

abbrev pub RespondDetermined : Type 0
RespondDetermined = (own counting state : ℕ) (words frame image reply : List ℕ)
    → Determined (λ (a : ℕ × List ℕ × List ℕ). Respond own counting state words frame image reply a.0 a.1 a.2)

abbrev pub BuildDetermined : Type 0
BuildDetermined = (station number start value : ℕ) (carried before : List ℕ)
    → Determined (λ (a : ℕ × List ℕ). Build station number start value carried before a.0 a.1)

abbrev pub ReadDetermined : Type 0
ReadDetermined = (station number start value : ℕ) (reply before : List ℕ)
    → Determined (λ (a : ℕ × List ℕ). Read station number start value reply before a.0 a.1)

-- ---- one number for an answer

-- kind and number can be read off it ..
abbrev pub KindAndNumber : Type 0
KindAndNumber = (kind number : ℕ) → number ≤ most_number → (kind_in (result kind number) ≡ kind) × (number_in (result kind number) ≡ number)

-- .. and different answers are told as different numbers, if they speak of at most 65,535 bytes (none speaks of more)
pub record Apart : Type 0 where
  pub outcomes : (a b : Outcome) → to_send a ≤ most_number → to_send b ≤ most_number → outcome_result a ≡ outcome_result b → a ≡ b
  pub built : (a b : Result ℕ Refusal) → bytes_built a ≤ most_number → bytes_built b ≤ most_number → built_result a ≡ built_result b → a ≡ b
  pub readings : (a b : Result Reading Refusal) → bytes_read a ≤ most_number → bytes_read b ≤ most_number → reading_result a ≡ reading_result b → a ≡ b

-- ---- area words

-- words are those of one list at most
abbrev pub OneList : Type 0
OneList = (a b : List Area) → area_words a ≡ area_words b → a ≡ b

-- words are those of no list exactly if their number is no multiple of three, or an access word means nothing
abbrev pub NoList : Type 0
NoList = (words : List ℕ)
    → (OfNoList words
    ↔ ((length words % 3 ≢ 0)
    ⊎ ((i : ℕ) × (i * 3 + 2 < length words) × MeansNothing access_word (get_or words (i * 3 + 2) 0))))

-- such words are refusal 3, in its place: only an own address 0 and an image's length stand before it
abbrev pub before_the_areas : ℕ → ℕ → List Line
before_the_areas own words =
    (1, own ≡ 0)
    ∷ (2, (words ≡ 0) ⊎ (most_image_words < words))
    ∷ (3, Unit)
    ∷ []

abbrev pub NoListRefused : Type 0
NoListRefused = (own counting state : ℕ) (words frame image reply : List ℕ) (told : ℕ) (image_after reply_after : List ℕ)
    → Respond own counting state words frame image reply told image_after reply_after → OfNoList words → kind_in told ≢ bad_argument
    → (number : ℕ) × RefusedBy (before_the_areas own (length image)) number × (told ≡ result refused number)

-- ---- demands 1 and 3, by what is told

pub record Kept : Type 0 where
  -- only a reply changes the image
  pub image : (own counting state : ℕ) (words frame before buffer : List ℕ) (told : ℕ) (after buffer_after : List ℕ)
      → Respond own counting state words frame before buffer told after buffer_after → kind_in told ≢ reply → after ≡ before
  -- only a reply and an exception change the reply buffer ..
  pub buffer : (own counting state : ℕ) (words frame image before : List ℕ) (told : ℕ) (image_after after : List ℕ)
      → Respond own counting state words frame image before told image_after after → kind_in told ≢ reply → kind_in told ≢ exception
      → after ≡ before
  -- .. and no byte beyond those that go onto the line
  pub behind_an_exception : (own counting state : ℕ) (words frame image before : List ℕ) (told : ℕ) (image_after after : List ℕ)
      → Respond own counting state words frame image before told image_after after → kind_in told ≡ exception
      → KeptBeyond exception_length before after
  pub behind_a_reply : (own counting state : ℕ) (words frame image before : List ℕ) (told : ℕ) (image_after after : List ℕ)
      → Respond own counting state words frame image before told image_after after → kind_in told ≡ reply
      → KeptBeyond (number_in told) before after

-- a damaged frame is told as silence 11, where the call is not refused and no argument bad
abbrev pub DamageTold : Type 0
DamageTold = (own counting state : ℕ) (words frame image reply : List ℕ) (told : ℕ) (image_after reply_after : List ℕ)
    → Respond own counting state words frame image reply told image_after reply_after → (right : List ℕ) → Damaged right frame
    → kind_in told ≢ bad_argument → kind_in told ≢ refused
    → (told ≡ result silent 11) × (image_after ≡ image) × (reply_after ≡ reply)

-- a damaged reply is refused with 71, where the request's fields and the buffer are not refused with 70
abbrev pub DamagedReplyTold : Type 0
DamagedReplyTold = (station number start value : ℕ) (reply before : List ℕ) (told : ℕ) (after : List ℕ)
    → Read station number start value reply before told after → (right : List ℕ) → Damaged right reply → told ≢ result refused 70
    → (told ≡ result refused 71) × (after ≡ before)
