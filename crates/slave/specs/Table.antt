-- What is answered, in this order. The table looks at the settings, the areas, the frame, and the lengths of image and reply
-- buffer; it looks at no register.
-- Assumes nothing.
use Rattle.std.specs.Prelude.{◌≡◌, ◌⊎◌, List, [], ◌∷◌, ℕ, ◌<◌, length}
use Rattle.check_word.specs.Frame.{shortest, longest, Right}
use Rattle.areas.specs.Holding.{InNoArea, OfAreaWith}
use Rattle.areas.specs.declared.Access.TheVariants.{ReadOnly}
use Rattle.areas.specs.declared.Area.{Area}
use Rattle.slave.specs.declared.Station.{Station}
use Rattle.slave.specs.declared.State.TheVariants.{NotReady, AtTheKeyboard}
use Rattle.slave.specs.Numbers.{Kind, refused, silence, exception, accepted}
use Rattle.slave.specs.Conditions.{most_image_words, BreaksARule, least_room, AnotherStation, NoFunction, WrongLength, OfFunction, QuantityZero, OutOfLimits, Writes, NamesNothing, SomeAddressedWord}

-- a line of the table: kind and number, and when it applies
abbrev pub Line : Type 1
Line = Kind × Type 0

-- The first line that applies decides; where none does, the request is accepted.
abbrev pub FirstDecides : List Line → Kind → Type 0
FirstDecides [] kind = kind ≡ accepted
FirstDecides ((given, When) ∷ lines) kind = (When × (kind ≡ given)) ⊎ ((When → ⊥) × FirstDecides lines kind)

-- The fifteen lines. (A frame has `shortest`, 4, to `longest`, 256, bytes: check_word, `Frame`.)
abbrev pub table : Station → List Area → ℕ → ℕ → List ℕ → List Line
table station areas words room frame =
    (refused 1, station.own ≡ 0)
    ∷ (refused 2, (words ≡ 0) ⊎ (most_image_words < words))
    ∷ (refused 3, BreaksARule areas words)
    ∷ (refused 4, room < least_room)
    ∷ (silence 10, (length frame < shortest) ⊎ (longest < length frame))
    ∷ (silence 11, Right frame → ⊥)
    ∷ (silence 12, AnotherStation station frame)
    ∷ (silence 13, station.state ≡ AtTheKeyboard)
    ∷ (exception 4, station.state ≡ NotReady)
    ∷ (exception 1, NoFunction frame)
    ∷ (silence 14, WrongLength frame)
    ∷ (silence 15, QuantityZero frame)
    ∷ (exception 3, OfFunction frame (OutOfLimits frame))
    ∷ (exception 2, NamesNothing station frame ⊎ SomeAddressedWord station frame (InNoArea areas))
    ∷ (exception 8, Writes frame × SomeAddressedWord station frame (OfAreaWith ReadOnly areas))
    ∷ []
