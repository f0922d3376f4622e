-- The totals are corrected in the used part, then the words go out; a shorter buffer stays as it was.
use mathlib.Core.Path.{sym}
use lib.Seq.{length-take-le}
use Rattle.changes.proofs.Steps.{extent_taken, extent_short}
use Rattle.changes.proofs.remove_extent.Goals as goal

pub slice_bounds-correct_under-end-then-used-file : goal.slice_bounds-correct_under-end-then-used-file
slice_bounds-correct_under-end-then-used-file c = sym (length-take-le _ _ c.if-used-file.true)

pub returns-then-used-file : goal.returns-then-used-file
returns-then-used-file c =
    extent_taken _ _ _ _ _ _ _ c.if-used-file.true c.correct_under.ensures c.remove_words.ensures

pub returns-else-used-file : goal.returns-else-used-file
returns-else-used-file c = extent_short _ _ _ _ _ c.if-used-file.false
