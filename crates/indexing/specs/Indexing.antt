-- What building an index answers and leaves of the lent buffer (RULES.md, "Index").
use Rattle.std.specs.Prelude.{ℕ, ◌+◌, ◌*◌, ◌/◌, ◌≤◌, ◌<◌, ◌≡◌, List, [], ◌∷◌, ◌++◌, Bool, cond, ◌&&◌, length, drop, set, leb, Err, None, Ok, Option, Result, Some}
use Rattle.kinds.specs.Kinds.{is_cell}
use Rattle.headers.specs.Header.{type_at, name_first, name_second}
use Rattle.words.specs.Words.{words}
use Rattle.entries.specs.Entries.{entries, image, shown}
use Rattle.sorting.specs.Order.{ordered}
use Rattle.cells.specs.Cells.{Cell, cells_between}
use Rattle.files.specs.Judge.{judge_of}
use Rattle.cells.specs.Index.{cell_entry, entries_of, index_of, index_bytes}
use Rattle.files.specs.declared.Accepted.{Accepted}
use Rattle.refusals.specs.Refusals.{refused_with}
use Rattle.refusals.specs.declared.Refusal.{Refusal}

-- the cells up to a place
abbrev pub cells_to : List ℕ → ℕ → List Cell
cells_to file to = cells_between (words file) 0 to

-- places are longs, there are n cells, and their entries fit
pub record MayBuild (file : List ℕ) (to n : ℕ) (index : List ℕ) : Type 0 where
  pub short : length file < 4294967296
  pub counted : n ≡ length (cells_to file to)
  pub fits : 8 * n ≤ length index

-- a place in the file, and as many entries before it at most as there are words
pub record MayMeet (file : List ℕ) (i at : ℕ) : Type 0 where
  pub short : length file < 4294967296
  pub inside : at < length file
  pub few : i ≤ at

-- the cell at a place is entry i, and the next one i + 1; where no cell is, all is as it was
pub record Met (ws : List ℕ) (at i : ℕ) (l : List ℕ) (r : ℕ) (m : List ℕ) : Type 0 where
  pub next : r ≡ i + cond (is_cell (type_at ws at)) 1 0
  pub entries : m ≡ cond (is_cell (type_at ws at)) (set l i (cell_entry (record { first = name_first ws at; second = name_second ws at; place = at }))) l

-- entries in the stead of the first ones, as many as there is room for
abbrev pub over : List ℕ → List ℕ → List ℕ
over [] l = l
over (e ∷ es) [] = []
over (e ∷ es) (x ∷ l) = e ∷ over es l

pub record Gathered (file : List ℕ) (to : ℕ) (l : List ℕ) (r : ℕ) (m : List ℕ) : Type 0 where
  pub count : r ≡ length (cells_to file to)
  pub entries : m ≡ over (entries_of (cells_to file to)) l

-- the bytes of a buffer with the entries of cells, in their order, in the stead of its first ones; what is no whole entry stays
unfoldable pub listed : List Cell → List ℕ → List ℕ
listed cs s = image (over (entries_of cs) (entries s)) ++ drop (8 * (length s / 8)) s

-- of a file that is not above the limit; else nothing is listed
pub record Lists (file : List ℕ) (to : ℕ) (s : List ℕ) (r : ℕ) (t : List ℕ) : Type 0 where
  pub count : r ≡ cond (leb (length file) 1048576) (length (cells_to file to)) 0
  pub bytes : t ≡ cond (leb (length file) 1048576) (listed (cells_to file to) s) s

pub record Builds (file : List ℕ) (to : ℕ) (index : List ℕ) (r : ℕ) (t : List ℕ) : Type 0 where
  pub used : r ≡ 8 * length (cells_to file to)
  pub bytes : t ≡ shown (length index) (ordered (entries_of (cells_to file to)))

-- the file is not above the limit, and the buffer has room for the entries of the cells up to a place
abbrev pub room_to : List ℕ → ℕ → List ℕ → Bool
room_to file to index = leb (length file) 1048576 && leb (8 * length (cells_to file to)) (length index)

-- then the index with zeros past it, whatever the buffer held; else the buffer as it was
pub record Puts (file : List ℕ) (to : ℕ) (index : List ℕ) (r : Option ℕ) (t : List ℕ) : Type 0 where
  pub answer : r ≡ cond (room_to file to index) (Some (8 * length (cells_to file to))) None
  pub bytes : t ≡ cond (room_to file to index) (shown (length index) (ordered (entries_of (cells_to file to)))) index

-- the answer of building, by what judging answers: the file's refusal, then 15 where so many bytes do not fit, or the used length
abbrev pub built_by : Result Accepted Refusal → ℕ → ℕ → Result ℕ Refusal
built_by (Err refusal) used size = Err refusal
built_by (Ok file) used size = cond (leb used size) (Ok used) (refused_with 15 0)

-- and the buffer then: the index and zeros past it, or as it was
abbrev pub left_by : Result Accepted Refusal → ℕ → List ℕ → List ℕ → List ℕ
left_by (Err refusal) used es index = index
left_by (Ok file) used es index = cond (leb used (length index)) (shown (length index) es) index

pub record BuildsFile (dim : ℕ) (file index : List ℕ) (r : Result ℕ Refusal) (t : List ℕ) : Type 0 where
  pub answer : r ≡ built_by (judge_of dim file) (index_bytes dim (words file)) (length index)
  pub bytes : t ≡ left_by (judge_of dim file) (index_bytes dim (words file)) (index_of dim (words file)) index
