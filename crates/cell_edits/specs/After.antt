-- The number of a file's cells after an edit, from three counts of words that stand before it: those of the file, of the piece, of
-- the extent that goes.
use Rattle.std.specs.Prelude.{ℕ, ◌+◌, ◌-◌, List, length}
use Rattle.files.specs.Spots.{spots_of}
use Rattle.edits.specs.Edits.{Edit, mark, rename, insert, remove, restore, extent_in}
use Rattle.cells.specs.Cells.{Cell, cells_of, cells_between, cells_within}

-- the cells among the elements of the extent at a place
abbrev pub cells_under : ℕ → List ℕ → ℕ → List Cell
cells_under dim ws p = cells_between ws p (p + extent_in (spots_of dim ws) p)

unfoldable pub number_after : ℕ → List ℕ → Edit → ℕ
number_after dim ws (mark p deleted) = length (cells_of dim ws)
number_after dim ws (rename p a b) = length (cells_of dim ws)
number_after dim ws (insert h p x) = length (cells_of dim ws) + length (cells_within x)
number_after dim ws (remove p) = length (cells_of dim ws) - length (cells_under dim ws p)
number_after dim ws (restore p x) = length (cells_of dim ws)
