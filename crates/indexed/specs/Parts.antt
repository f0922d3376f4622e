-- Promises of private functions: the lengths that are lent, how many cells there are, the answer once the index is built.
use Rattle.std.specs.Prelude.{ℕ, ◌+◌, ◌-◌, ◌*◌, ◌/◌, ◌≤◌, ◌≡◌, Bool, cond, ◌&&◌, List, length, take, drop, eqb, ltb, Err, None, Ok, Option, Result, Some}
use Rattle.limits.specs.Limits.{used_ok}
use Rattle.headers.specs.Header.{extent_words}
use Rattle.entries.specs.Entries.{shown, entries_ok}
use Rattle.sorting.specs.Order.{ordered}
use Rattle.cells.specs.Cells.{cells_between, cells_within}
use Rattle.cells.specs.Index.{entries_of}
use Rattle.indexing.specs.Indexing.{cells_to, room_to}
use Rattle.edits.specs.Calls.{used_words}
use Rattle.journals.specs.declared.Last.TheVariants as last
use Rattle.journals.specs.Journals.{LastRead}
use Rattle.opening.specs.Steps.{last_place}
use Rattle.edits.specs.declared.UsedLengths.{UsedLengths}
use Rattle.indexed.specs.AllLengths.{all_made}
use Rattle.indexed.specs.declared.AllLengths.{AllLengths}
use Rattle.journals.specs.declared.Last.{Last}
use Rattle.refusals.specs.Refusals.{refused_with}
use Rattle.refusals.specs.declared.Refusal.{Refusal}

abbrev pub lent_ok : ℕ → ℕ → ℕ → ℕ → ℕ → ℕ → Bool
lent_ok file used journal jused index iused = used_ok file used && (used_ok journal jused && entries_ok index iused)

-- the cells of the used words, which end in the marker
abbrev pub cells_used : List ℕ → ℕ → ℕ
cells_used file used = length (cells_between (used_words file used) 0 (last_place file used))

-- those of the extent at a place
abbrev pub cells_under : List ℕ → ℕ → ℕ → ℕ
cells_under file used p =
    cond (ltb p (used / 2)) (length (cells_between (used_words file used) p (p + extent_words (used_words file used) p))) 0

-- two used lengths within their buffers, of which the file's is not above the limit
pub record MayCount (file : List ℕ) (used : ℕ) (journal : List ℕ) (jused : ℕ) : Type 0 where
  pub used_within : used ≤ length file
  pub small : length file ≤ 1048576
  pub jused_within : jused ≤ length journal

-- the cells after the reversal of a record
abbrev pub cells_by : List ℕ → ℕ → List ℕ → Option Last → ℕ
cells_by file used js None = cells_used file used
cells_by file used js (Some (last.Flag p n before)) = cells_used file used
cells_by file used js (Some (last.Renamed p a b before)) = cells_used file used
cells_by file used js (Some (last.Inserted h p before)) = cells_used file used - cells_under file used p
cells_by file used js (Some (last.Removed h p n before)) = cells_used file used + length (cells_within (take n (drop (before / 2) js)))

-- of the last record of a journal
pub record CellsBack (file : List ℕ) (used : ℕ) (journal : List ℕ) (jused n : ℕ) : Type 0 where
  pub record_is : Option Last
  pub read : LastRead (take jused journal) record_is
  pub is : n ≡ cells_by file used (used_words journal jused) record_is

-- 15 for 16 where the index is full
abbrev pub told_number : Bool → ℕ → ℕ
told_number full n = cond full (cond (eqb n 16) 15 n) n

-- what is made is within the file's buffer
abbrev pub Finishable : Result UsedLengths Refusal → ℕ → Type 0
Finishable (Ok lengths) size = lengths.used ≤ size
Finishable (Err refusal) size = Unit {0}

-- the answer with the index's used length
abbrev pub finished_by : Result UsedLengths Refusal → Bool → List ℕ → List ℕ → Result AllLengths Refusal
finished_by (Ok lengths) full file index =
    cond (room_to (take lengths.used file) (lengths.used / 2 - 1) index) (all_made lengths.used lengths.jused (8 * length (cells_to (take lengths.used file) (lengths.used / 2 - 1)))) (refused_with 15 0)
finished_by (Err refusal) full file index = refused_with (told_number full refusal.number) refusal.place

-- and the index's buffer
abbrev pub index_by : Result UsedLengths Refusal → List ℕ → List ℕ → List ℕ
index_by (Ok lengths) file index =
    cond (room_to (take lengths.used file) (lengths.used / 2 - 1) index) (shown (length index) (ordered (entries_of (cells_to (take lengths.used file) (lengths.used / 2 - 1))))) index
index_by (Err refusal) file index = index

pub record Finished (answer : Result UsedLengths Refusal) (full : Bool) (file index : List ℕ) (r : Result AllLengths Refusal) (index' : List ℕ) : Type 0 where
  pub is : r ≡ finished_by answer full file index
  pub bytes : index' ≡ index_by answer file index
