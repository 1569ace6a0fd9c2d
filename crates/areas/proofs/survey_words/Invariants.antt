-- `survey_words` meets its contract: from turn to turn, the search is that of each list whose words they are, and the access words
-- that were read mean something. So at the end there is such a list.
-- Assumes nothing.
use Rattle.std.proofs.Common.{List, ◌≡◌, ◌*◌, ◌≤◌, length, drop}
use Rattle.std.specs.Slice.Iter.{chunks_exact_rest, chunks_exact_size}
use Rattle.areas.specs.declared.Area.{Area}
use Rattle.areas.specs.Words.{area_words}
use Rattle.areas.specs.Search.{Sought}
use Rattle.areas.proofs.Words.{Named}
use Rattle.areas.proofs.survey_words.Given as goal

abbrev pub invariant-loop-entry : goal.invariant-loop-entry
invariant-loop-entry l = record {
  size : chunks_exact_size l.entry-iterator ≡ 3;
  left : drop (length l.yielded * 3) l.area_words ≡ chunks_exact_rest l.entry-iterator;
  within : length l.yielded * 3 ≤ length l.area_words;
  named : Named l.area_words (length l.yielded);
  sought : (areas : List Area) → area_words areas ≡ l.area_words → Sought areas l.words l.fn.run (length l.yielded) l.search;
}
