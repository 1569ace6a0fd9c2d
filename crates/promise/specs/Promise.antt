-- A promise is what a contract says of the answers to one call: of the result and, together with it, of each lent buffer
-- as the call leaves it.
-- Assumes nothing.
use Rattle.std.specs.Prelude.{◌≡◌, Bool, true, false}

-- any two answers that a promise allows coincide
abbrev pub Determined : {Answer : Type 0} → (Answer → Type 0) → Type 0
Determined {Answer} Allowed = (a b : Answer) → Allowed a → Allowed b → a ≡ b

-- an answer of yes or no says whether the fact holds
abbrev pub Decides : Type 0 → Bool → Type 0
Decides Fact true = Fact
Decides Fact false = Fact → ⊥

-- An attempt on lent memory, by the answer. Yes: it was possible, and it is done. No: it was not, and nothing changed.
unfoldable pub Attempt : {Content : Type 0} → Type 0 → (Content → Type 0) → Content → Bool → Content → Type 0
Attempt Possible Done before true after = Possible × Done after
Attempt Possible Done before false after = (Possible → ⊥) × (after ≡ before)
