-- The areas of a list by value.
-- Assumes nothing.
use mathlib.Core.Path.{◌≡◌, sym, ap, ◌∙◌}
use Prim.Native.Nat.{min}
use native.Mathlib.Decide.{dec_le}
use native.Mathlib.Omega.{arith}
use lib.ListN.{length, take, length-take}
use lib.Seq.{take_all}
use Rattle.areas.specs.declared.AreaList.{AreaList}
use Rattle.areas.specs.Calls.{list_entries, listed}

pub listed_length : (list : AreaList) → length list.entries ≡ list_entries → length (listed list) ≡ min list.len list_entries
listed_length list e = length-take list.len list.entries ∙ ap (min list.len) e

-- a length over that of the entries counts as theirs
pub listed_used : (list : AreaList) → length list.entries ≡ list_entries
    → take (min list.len list_entries) list.entries ≡ listed list
listed_used list e =
    elim (dec_le list.len list_entries) [
      | yes few ↦ let same : min list.len list_entries ≡ list.len = omega arith in ap (λ n. take n list.entries) same
      | no many ↦
          take_all (min list.len list_entries) list.entries (omega arith)
          ∙ sym (take_all list.len list.entries (omega arith))
    ]
