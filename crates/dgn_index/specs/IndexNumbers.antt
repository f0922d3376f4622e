-- The answers about cells and an index as numbers, and what is left of a lent buffer. The library's own definitions decide them.
use Rattle.std.specs.Prelude.{ℕ, min, ◌≡◌, cond, List, [], ◌∷◌, length, eqb, leb, Err, Ok, Result}
use Rattle.words.specs.Words.{words}
use Rattle.files.specs.Judge.{judge_of}
use Rattle.cells.specs.Cells.{Cell, cells_of}
use Rattle.cells.specs.Index.{index_of, index_bytes}
use Rattle.indexing.specs.Indexing.{listed, built_by, left_by}
use Rattle.answers.specs.Answers.{Reply, done, refuse, Replied}
use Rattle.files.specs.declared.Accepted.{Accepted}
use Rattle.finder.specs.declared.Found.{Found}
use Rattle.finder.specs.declared.Missed.{Missed}
use Rattle.refusals.specs.declared.Refusal.{Refusal}

-- how many cells, and what judging answers
abbrev pub cells_reply : Result Accepted Refusal → ℕ → Reply ℕ
cells_reply (Ok file) n = done (n ∷ file.elements ∷ file.deepest ∷ file.marker ∷ [])
cells_reply (Err refusal) n = refuse refusal.number refusal.place

-- the buffer of entries: those of the cells of an accepted file, in file order, as many as it holds
abbrev pub listed_by : Result Accepted Refusal → List Cell → List ℕ → List ℕ
listed_by (Ok file) cs s = listed cs s
listed_by (Err refusal) cs s = s

-- the number that is returned, the buffer and the answer slice as they then are; with no room for the answer both stay
pub record CellsLeft (dim : ℕ) (file s out : List ℕ) (n : ℕ) (s' t : List ℕ) : Type 0 where
  pub answer : Replied 4 (cells_reply (judge_of dim file) (length (cells_of dim (words file)))) out n t
  pub entries_are : s' ≡ cond (leb 4 (length out)) (listed_by (judge_of dim file) (cells_of dim (words file)) s) s

-- the used length
abbrev pub index_reply : Result ℕ Refusal → Reply ℕ
index_reply (Ok used) = done (used ∷ [])
index_reply (Err refusal) = refuse refusal.number refusal.place

-- the number that is returned, the index's buffer and the answer slice as they then are; with no room for the answer both stay
pub record IndexLeft (dim : ℕ) (file index out : List ℕ) (n : ℕ) (index' t : List ℕ) : Type 0 where
  pub answer : Replied 1 (index_reply (built_by (judge_of dim file) (index_bytes dim (words file)) (length index))) out n t
  pub index_is : index' ≡ cond (leb 1 (length out)) (left_by (judge_of dim file) (index_bytes dim (words file)) (index_of dim (words file)) index) index

-- the detail of a refusal is its place, of 13 the number of looks, 524,288 where there were more
abbrev pub look_detail : ℕ → ℕ → ℕ → ℕ
look_detail number place looks = cond (eqb number 13) (min looks 524288) place

-- the place, and the number of looks
abbrev pub look_reply : Result Found Missed → Reply ℕ
look_reply (Ok found) = done (found.place ∷ found.looks ∷ [])
look_reply (Err missed) = refuse missed.refusal.number (look_detail missed.refusal.number missed.refusal.place missed.looks)
