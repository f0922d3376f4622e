-- Three ways out, each a law of Ways: the fault found is the refusal, a journal without room for the record is 16, else the
-- record is pushed with the old name as its payload and the name stored.
use mathlib.Core.Path.{sym}
use lib.Seq.{length-take-le}
use Rattle.words.proofs.Laws.{lent_below}
use Rattle.opening.proofs.OpenSession.{used_within, jused_within}
use Rattle.marking.proofs.Ways.{rename_refused, rename_full, rename_done}
use Rattle.marking.proofs.rename_opened.Goals as goal

pub slice_bounds-rename_fault-end : goal.slice_bounds-rename_fault-end
slice_bounds-rename_fault-end c = used_within (c.requires)

pub slice_bounds-rename_fault-end-2 : goal.slice_bounds-rename_fault-end-2
slice_bounds-rename_fault-end-2 c = sym (length-take-le _ _ (used_within (c.requires)))

pub returns-then-number-ne0 : goal.returns-then-number-ne0
returns-then-number-ne0 c =
    rw c.refused.ensures
    (rename_refused _ _ _ _ _ _ _ c.requires (lent_below c.args.file.now c.slice_known-1.given)
    _ _ _ _ c.rename_fault-number.ensures c.if-number-ne0.true)

pub overflow_sub-journal : goal.overflow_sub-journal
overflow_sub-journal c =
    jused_within c.requires

pub returns-then-journal-jused-lt16 : goal.returns-then-journal-jused-lt16
returns-then-journal-jused-lt16 c =
    rw c.refused-then-journal-jused-lt16.ensures
    (rename_full _ _ _ _ _ _ _ c.requires (lent_below c.args.file.now c.slice_known-1.given) _
    _ _ _ c.rename_fault-number.ensures c.if-number-ne0.false c.if-journal-jused-lt16.true)

pub slice_bounds-cell_name-end : goal.slice_bounds-cell_name-end
slice_bounds-cell_name-end c =
    used_within c.requires

pub slice_bounds-cell_name-end-2 : goal.slice_bounds-cell_name-end-2
slice_bounds-cell_name-end-2 c =
    sym (length-take-le _ _ (used_within c.requires))

pub slice_bounds-rename_cell-end : goal.slice_bounds-rename_cell-end
slice_bounds-rename_cell-end c =
    used_within c.requires

pub slice_bounds-rename_cell-end-2 : goal.slice_bounds-rename_cell-end-2
slice_bounds-rename_cell-end-2 c =
    sym (length-take-le _ _ (used_within c.requires))

pub returns : goal.returns
returns c =
    rename_done _ _ _ _ _ _ _ c.requires
    (lent_below c.args.file.now c.slice_known-1.given) _ _ _ _
    c.rename_fault-number.ensures c.if-number-ne0.false c.if-journal-jused-lt16.false c.ranges.first.fits
    c.ranges.second.fits _ _ _ c.rename_cell.ensures c.cell_name-old.ensures
    c.push.ensures
