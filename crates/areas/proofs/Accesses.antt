-- The two kinds of access.
-- Assumes nothing.
use mathlib.Core.Path.{◌≡◌, refl, sym, ap, ◌∙◌}
use mathlib.Core.Bool.{Bool, true, false, false≢true}
use Rattle.areas.specs.declared.Access.{Access}
use Rattle.areas.specs.declared.Access.TheVariants.{ReadOnly, ReadWrite}

abbrev is_read_only : Access → Bool
is_read_only ReadOnly = true
is_read_only ReadWrite = false

pub not_both : (access : Access) → access ≡ ReadOnly → access ≡ ReadWrite → ⊥
not_both access p q = false≢true (ap is_read_only (sym q ∙ p))

pub read_write : (access : Access) → (access ≡ ReadOnly → ⊥) → access ≡ ReadWrite
read_write ReadOnly not = absurd (not refl)
read_write ReadWrite not = refl

pub dec_access : (a b : Access) → Dec (a ≡ b)
dec_access ReadOnly ReadOnly = yes refl
dec_access ReadOnly ReadWrite = no (λ e. not_both ReadOnly refl e)
dec_access ReadWrite ReadOnly = no (λ e. not_both ReadWrite e refl)
dec_access ReadWrite ReadWrite = yes refl
