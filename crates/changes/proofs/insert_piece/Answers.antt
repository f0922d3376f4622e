-- The totals are corrected in the used part, then the piece goes in; a shorter buffer stays as it was.
use mathlib.Core.Path.{sym}
use lib.Seq.{length-take-le}
use Rattle.changes.proofs.Steps.{piece_put, piece_short}
use Rattle.changes.proofs.insert_piece.Goals as goal

pub slice_bounds-correct_under-end-then-used-file : goal.slice_bounds-correct_under-end-then-used-file
slice_bounds-correct_under-end-then-used-file c = sym (length-take-le _ _ c.if-used-file.true)

pub returns-then-used-file : goal.returns-then-used-file
returns-then-used-file c =
    piece_put _ _ _ _ _ _ _ c.if-used-file.true c.correct_under.ensures c.insert_words.ensures

pub returns-else-used-file : goal.returns-else-used-file
returns-else-used-file c = piece_short _ _ _ _ _ c.if-used-file.false
