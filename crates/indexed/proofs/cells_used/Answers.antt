-- The walk over sizes up to the last used word (`counted_used`).
use mathlib.Core.Path.{sym}
use lib.Seq.{length-take-le}
use Rattle.indexed.proofs.Parts.{counted_used}
use Rattle.indexed.proofs.cells_used.Goals as goal

pub slice_bounds-count_cells-end : goal.slice_bounds-count_cells-end
slice_bounds-count_cells-end c = sym (length-take-le _ _ (c.requires))

pub returns : goal.returns
returns c =
    counted_used _ _ (c.requires) _ _ (c.last_place.ensures) (c.count_cells.ensures)
