-- `entry` meets its contract by the computed test that ties each entry to its number.
-- Assumes nothing.
use mathlib.Core.Path.{◌≡◌, refl}
use mathlib.Core.Bool.{true}
use Rattle.check_word.proofs.Entries.{counts, entry_back}
use Rattle.check_word.specs.declared.table.TheConstants.{TABLE}
use Rattle.check_word.proofs.table.entry.Goals as goal

tested : counts 0 TABLE ≡ true
tested = refl

pub returns : goal.returns
returns c = entry_back TABLE tested c.args.i c.requires
