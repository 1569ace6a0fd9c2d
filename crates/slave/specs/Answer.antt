-- The whole answer to a call: the outcome, and reply and image to their last byte and word.
-- Assumes nothing.
use Rattle.std.specs.Prelude.{◌≡◌, List, ◌∷◌, ◌++◌, ℕ, eqb, length, drop}
use Rattle.check_word.specs.Frame.{framed}
use Rattle.registers.specs.Memory.{image_word, image_bit, from}
use Rattle.registers.specs.Packing.{packed_bit, packed_word, BitsPacked, WordsPacked}
use Rattle.registers.specs.Storing.{BitsStored, WordsStored}
use Rattle.registers.specs.Calls.{bit_value}
use Rattle.areas.specs.declared.Area.{Area}
use Rattle.frames.specs.declared.Act.{Act}
use Rattle.frames.specs.declared.Act.TheVariants.{Read, WriteOne, WriteRun}
use Rattle.frames.specs.declared.Width.{Width}
use Rattle.frames.specs.declared.Width.TheVariants.{Bit, Word}
use Rattle.frames.specs.Fields.{function_field, quantity_field, value_field, up_to_quantity, data_field}
use Rattle.frames.specs.Limits.{bytes_for, on}
use Rattle.frames.specs.Exceptions.{code_number, exception_frame, exception_length}
use Rattle.slave.specs.declared.Station.{Station}
use Rattle.slave.specs.declared.Outcome.{Outcome}
use Rattle.slave.specs.declared.Outcome.TheVariants.{Refused, Silent, Exception, Reply}
use Rattle.slave.specs.Numbers.{kind_of}
use Rattle.slave.specs.Conditions.{OfFunction, first_addressed}
use Rattle.slave.specs.Table.{table, FirstDecides}

-- ---- what an accepted request does to image and reply buffer

-- the addressed bits or words of an image, as bytes; spare bits of the last byte are 0 (registers, `Packing`)
abbrev pub Shown : Width → ℕ → ℕ → List ℕ → List ℕ → Type 0
Shown Bit first count image = BitsPacked count (from first (image_bit image))
Shown Word first count image = WordsPacked count (from first (image_word image))

-- one bit, on or off, or one word stored in an image
abbrev pub StoredOne : Width → ℕ → ℕ → List ℕ → List ℕ → Type 0
StoredOne Bit first value = BitsStored first 1 (λ n. bit_value (eqb value on))
StoredOne Word first value = WordsStored first 1 (λ n. value)

-- the first `count` bits or words of the bytes stored in an image; spare bits of the last byte are ignored
abbrev pub StoredRun : Width → ℕ → ℕ → List ℕ → List ℕ → List ℕ → Type 0
StoredRun Bit first count bytes = BitsStored first count (packed_bit bytes)
StoredRun Word first count bytes = WordsStored first count (packed_word bytes)

-- bytes written over the start of a buffer: those beyond keep their content
abbrev pub over : List ℕ → List ℕ → List ℕ
over bytes buffer = bytes ++ drop (length bytes) buffer

-- the reply: to a read, byte count and data; to a write of one, as the request; to a write of a run, start and quantity as
-- received. `first` is the request's address counted from 0
abbrev pub ReplyTo : ℕ → ℕ → List ℕ → List ℕ → Act → Width → List ℕ → Type 0
ReplyTo own first frame image Read width bytes =
    (shown : List ℕ) × Shown width first (quantity_field frame) image shown
    × (bytes ≡ framed (own ∷ function_field frame ∷ bytes_for width (quantity_field frame) ∷ shown))
ReplyTo own first frame image WriteOne width bytes = bytes ≡ frame
ReplyTo own first frame image WriteRun width bytes = bytes ≡ framed (up_to_quantity frame)

-- the image: a read leaves it; a write stores the frame's data, and nothing else
abbrev pub ImageAfter : ℕ → List ℕ → List ℕ → Act → Width → List ℕ → Type 0
ImageAfter first frame image Read width after = after ≡ image
ImageAfter first frame image WriteOne width after = StoredOne width first (value_field frame) image after
ImageAfter first frame image WriteRun width after = StoredRun width first (quantity_field frame) (data_field frame) image after

-- both, and the length that is told
pub record Done (own first : ℕ) (frame image reply : List ℕ) (act : Act) (width : Width) (n : ℕ)
    (image_after reply_after : List ℕ) : Type 0 where
  pub bytes : List ℕ
  pub are_the_reply : ReplyTo own first frame image act width bytes
  pub told : n ≡ length bytes
  pub written : reply_after ≡ over bytes reply
  pub stored : ImageAfter first frame image act width image_after

-- ---- the whole answer

-- what goes into a call; image and reply buffer are as they were lent
pub record Call : Type 0 where
  pub station : Station
  pub areas : List Area
  pub frame : List ℕ
  pub image : List ℕ
  pub reply : List ℕ

-- what comes out of it; image and reply buffer are as the call leaves them
pub record Answer : Type 0 where
  pub outcome : Outcome
  pub image : List ℕ
  pub reply : List ℕ

-- how many bytes of the reply buffer go onto the line
abbrev pub to_send : Outcome → ℕ
to_send (Refused why) = 0
to_send (Silent why) = 0
to_send (Exception code) = exception_length
to_send (Reply n) = n

-- image and reply buffer, by the outcome
abbrev pub Leaves : Station → List ℕ → List ℕ → List ℕ → Outcome → List ℕ → List ℕ → Type 0
Leaves station frame image reply (Refused why) image_after reply_after = (image_after ≡ image) × (reply_after ≡ reply)
Leaves station frame image reply (Silent why) image_after reply_after = (image_after ≡ image) × (reply_after ≡ reply)
Leaves station frame image reply (Exception code) image_after reply_after =
    (image_after ≡ image)
    × (reply_after ≡ over (exception_frame station.own (function_field frame) (code_number code)) reply)
Leaves station frame image reply (Reply n) image_after reply_after =
    OfFunction frame
    (λ act width. Done station.own (first_addressed station frame) frame image reply act width n image_after reply_after)

-- The table gives the outcome, and the outcome image and reply buffer.
pub record Answers (call : Call) (answer : Answer) : Type 0 where
  pub decided : FirstDecides
      (table call.station call.areas (length call.image) (length call.reply) call.frame)
      (kind_of answer.outcome)
  pub left : Leaves call.station call.frame call.image call.reply
      answer.outcome answer.image answer.reply

-- what `respond` promises of the areas that it is lent, and `respond_by_value` of those of its list (`listed` of areas)
abbrev pub Respond : Station → List Area → List ℕ → List ℕ → List ℕ → Outcome → List ℕ → List ℕ → Type 0
Respond station areas frame image reply outcome image_after reply_after =
    Answers (record { station = station; areas = areas; frame = frame; image = image; reply = reply })
    (record { outcome = outcome; image = image_after; reply = reply_after })
