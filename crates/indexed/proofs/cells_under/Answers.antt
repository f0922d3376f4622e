-- The walk over sizes from the place to the end of its extent, which is small (`counted_under`).
use mathlib.Core.Path.{sym}
use native.Mathlib.Omega.{arith}
use lib.Seq.{length-take-le}
use Rattle.words.proofs.Laws.{lent_below}
use Rattle.indexed.proofs.Parts.{extent_small, counted_under, counted_none}
use Rattle.indexed.proofs.cells_under.Goals as goal

pub slice_bounds-extent_words-end : goal.slice_bounds-extent_words-end
slice_bounds-extent_words-end c =
    sym (length-take-le _ _ (c.requires))

pub slice_bounds-count_cells-end : goal.slice_bounds-count_cells-end
slice_bounds-count_cells-end c =
    sym (length-take-le _ _ (c.requires))

pub overflow_add-place : goal.overflow_add-place
overflow_add-place c =
    omega (arith, c.if-place-used.true, extent_small (c.args.file.now) (c.args.used) (lent_below (c.args.file.now) (c.type_inv.file)) (c.args.place) _ (c.extent_words-n.ensures))

pub returns-then-place-used : goal.returns-then-place-used
returns-then-place-used c =
    counted_under _ _ _ (c.if-place-used.true) _ _ (c.extent_words-n.ensures) (c.count_cells.ensures)

pub returns : goal.returns
returns c = counted_none _ _ _ (c.if-place-used.false)
