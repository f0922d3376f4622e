-- The index of a file's cells (RULES.md, "Index"): an entry is two name words and the place as a long, high word first;
-- the entries are ordered by the words, unsigned, then by place.
use Rattle.std.specs.Prelude.{ℕ, ◌+◌, ◌*◌, List, [], ◌∷◌, length}
use Rattle.sorting.specs.Order.{ordered}
use Rattle.cells.specs.Cells.{Cell, cells_of}

-- an entry as one number, its four words as digits to the base 65536, so that the order of entries is that of the numbers
abbrev pub cell_entry : Cell → ℕ
cell_entry c = 281474976710656 * c.first + 4294967296 * c.second + c.place

abbrev pub entries_of : List Cell → List ℕ
entries_of [] = []
entries_of (c ∷ cs) = cell_entry c ∷ entries_of cs

-- the index of a file
unfoldable pub index_of : ℕ → List ℕ → List ℕ
index_of dim ws = ordered (entries_of (cells_of dim ws))

-- the bytes that it takes
unfoldable pub index_bytes : ℕ → List ℕ → ℕ
index_bytes dim ws = 8 * length (cells_of dim ws)
