-- An index beside a file that is edited, and building: the index that every run of calls leaves is just the one that building makes of
-- the file, and a run may begin with what building leaves. The order of entries, by words and places.
use Rattle.std.specs.Prelude.{ℕ, ◌<◌, ◌≤◌, ◌≡◌, ◌↔◌, ◌⊎◌, List, [], ◌∷◌, length, Ok, Result}
use Rattle.std.proofs.Math.Option.{some}
use Rattle.refusals.specs.declared.Refusal.{Refusal}
use Rattle.words.specs.Words.{words, Below}
use Rattle.files.specs.Judge.{judge_of}
use Rattle.files.specs.Accepted.{accepted_with}
use Rattle.cells.specs.Cells.{Cell, cells_of}
use Rattle.cells.specs.Index.{cell_entry}
use Rattle.indexing.specs.Indexing.{BuildsFile}
use Rattle.edits.specs.Calls.{Index, Session, Call}
use Rattle.edits.specs.Demand.{OpenedEmpty, PiecesBytes, run_of, used_bytes}

---- the index of a session, and building

-- after every list of calls: building of the file's used bytes, in any buffer as long as the index's, answers the index's used
-- length and leaves the index's buffer, byte for byte
abbrev pub IndexAsBuilt : Type 0
IndexAsBuilt =
    (dim : ℕ) (s : Session) (cs : List Call) (i : Index) (b : List ℕ) (r : Result ℕ Refusal) (t : List ℕ) → OpenedEmpty dim s → PiecesBytes cs →
    (run_of dim s cs).session.index ≡ some i → length b ≡ length i.buffer →
    BuildsFile dim (used_bytes (run_of dim s cs).session) b r t → (r ≡ Ok i.iused) × (t ≡ i.buffer)

-- a session lent this index, whatever index it was lent before
abbrev pub lent_index : Session → List ℕ → ℕ → Session
lent_index s t n = record {
  file = s.file;
  used = s.used;
  journal = s.journal;
  jused = s.jused;
  index = some (record { buffer = t; iused = n });
}

-- a run may begin with what building of its file's used bytes answers and leaves of a buffer
abbrev pub BuiltOpens : Type 0
BuiltOpens =
    (dim : ℕ) (s : Session) (b : List ℕ) (n : ℕ) (t : List ℕ) → OpenedEmpty dim s → BuildsFile dim (used_bytes s) b (Ok n) t →
    OpenedEmpty dim (lent_index s t n)

---- the order of entries

-- a cell whose name's words are words and whose place is a long
pub record CellOk (c : Cell) : Type 0 where
  pub first : c.first < 65536
  pub second : c.second < 65536
  pub place : c.place < 4294967296

-- each cell of a list
abbrev pub EachOk : List Cell → Type 0
EachOk [] = Unit {0}
EachOk (c ∷ cs) = CellOk c × EachOk cs

-- as every cell of an accepted file is
abbrev pub CellsOk : Type 0
CellsOk =
    (dim : ℕ) (s : List ℕ) (e d m : ℕ) → Below 256 s → judge_of dim s ≡ accepted_with e d m → EachOk (cells_of dim (words s))

-- by the first word, then by the second, then by the place
abbrev pub Before : Cell → Cell → Type 0
Before c d =
    (c.first < d.first)
    ⊎ ((c.first ≡ d.first) × ((c.second < d.second) ⊎ ((c.second ≡ d.second) × (c.place ≤ d.place))))

-- the order of the entries as numbers is this order
abbrev pub EntryOrder : Type 0
EntryOrder = (c d : Cell) → CellOk c → CellOk d → (cell_entry c ≤ cell_entry d) ↔ Before c d

-- and cells with one entry are one cell
abbrev pub EntriesApart : Type 0
EntriesApart = (c d : Cell) → CellOk c → CellOk d → cell_entry c ≡ cell_entry d → c ≡ d
