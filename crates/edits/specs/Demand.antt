-- Demand 3 (RULES.md, "Three demands"): one claim over every list of calls of a session, refused ones among them.
use Rattle.std.specs.Prelude.{ℕ, ◌-◌, ◌/◌, ◌≡◌, ◌↔◌, List, [], ◌∷◌, Bool, true, not, ◌&&◌, length, take}
use Rattle.refusals.specs.Refusals.{refused_with}
use Rattle.words.specs.Words.{bytes, Below}
use Rattle.files.specs.Judge.{judge_of}
use Rattle.files.specs.Accepted.{accepted_with}
use Rattle.edits.specs.Allowed.{fine}
use Rattle.edits.specs.Calls.{Session, size_of, index_fits, afresh, Call, mark_call, rename_call, insert_call, remove_call, undo_call, words_of, session_fault, step}
use Rattle.edits.specs.Book.{Run, ran, noting, was_refused, applied, undos}

-- what a run starts with
pub record OpenedEmpty (dim : ℕ) (s : Session) : Type 0 where
  -- the file's buffer is bytes
  pub file_bytes : Below 256 s.file
  -- the journal's buffer is bytes
  pub journal_bytes : Below 256 s.journal
  -- the journal holds no record
  pub journal_empty : s.jused ≡ 0
  -- no refusal by 1 (dimension, buffers, used lengths, last used word), by the file's own, or by an earlier marker
  pub ready : session_fault dim s ≡ fine
  -- a lent index is the one built afresh of the file, zeros past it, and fits its buffer; where none is lent both say nothing
  pub index_built : s.index ≡ afresh dim (words_of s) (size_of s.index)
  pub index_fits_lem : index_fits dim (words_of s) (size_of s.index) ≡ true

-- the pieces of a list of calls are bytes
abbrev pub PieceBytes : Call → Type 0
PieceBytes (mark_call p deleted) = Unit {0}
PieceBytes (rename_call p text) = Unit {0}
PieceBytes (insert_call h p piece) = Below 256 piece
PieceBytes (remove_call p) = Unit {0}
PieceBytes undo_call = Unit {0}

abbrev pub PiecesBytes : List Call → Type 0
PiecesBytes [] = Unit {0}
PiecesBytes (c ∷ cs) = PieceBytes c × PiecesBytes cs

-- a session and its book after a list of calls, the book's list empty at first
abbrev pub run_of : ℕ → Session → List Call → Run
run_of dim s cs = ran dim (record { session = s; book = [] }) cs

-- whether none of a list of calls is refused
abbrev pub none_refused : ℕ → Run → List Call → Bool
none_refused dim r [] = true
none_refused dim r (c ∷ cs) =
    not (was_refused (step dim r.session c).answer) && none_refused dim (noting r.book c (step dim r.session c)) cs

-- the file's used bytes
abbrev pub used_bytes : Session → List ℕ
used_bytes s = take s.used s.file

-- judging accepts the used file, and finds its marker at the last used word
pub record AcceptedFile (dim : ℕ) (s : Session) : Type 0 where
  pub elements : ℕ
  pub deepest : ℕ
  pub judged : judge_of dim (used_bytes s) ≡ accepted_with elements deepest (s.used / 2 - 1)

-- what holds of a run r that started with the session s
pub record Demand3 (dim : ℕ) (s : Session) (r : Run) : Type 0 where
  -- the file is accepted, with its marker as the last used word
  pub accepted : AcceptedFile dim r.session
  -- no refusal by 1, by the file's own, or by an earlier marker, as at the start
  pub ready : session_fault dim r.session ≡ fine
  -- the file's buffer keeps its length
  pub file_length : length r.session.file ≡ length s.file
  -- the journal's buffer keeps its length
  pub journal_length : length r.session.journal ≡ length s.journal
  -- a lent index is the one built afresh of the file in the same buffer, zeros past it; where none was lent there is none
  pub index : r.session.index ≡ afresh dim (words_of r.session) (size_of s.index)
  -- the listed edits, applied to the original's used words first to last, give the file's used words
  pub equals : words_of r.session ≡ applied dim (words_of s) r.book
  -- and its used bytes are those of these words
  pub equals_bytes : used_bytes r.session ≡ bytes (applied dim (words_of s) r.book)
  -- an undo is refused exactly when the list is empty
  pub undo_refused : was_refused (step dim r.session undo_call).answer ≡ true ↔ r.book ≡ []
  -- and then it answers 17 at 0
  pub undo_nothing : r.book ≡ [] → (step dim r.session undo_call).answer ≡ refused_with 17 0
  -- of as many undos as the list is long none is refused
  pub undos_made : none_refused dim r (undos r.book) ≡ true
  -- they empty the list
  pub undos_book : (ran dim r (undos r.book)).book ≡ []
  -- and the journal
  pub undos_journal : (ran dim r (undos r.book)).session.jused ≡ 0
  -- they give the original's used length back
  pub undos_used : (ran dim r (undos r.book)).session.used ≡ s.used
  -- and its used bytes
  pub undos_bytes : used_bytes (ran dim r (undos r.book)).session ≡ used_bytes s

-- the demand: every dimension, session and list of calls
abbrev pub EveryRun : Type 0
EveryRun = (dim : ℕ) (s : Session) (cs : List Call) → OpenedEmpty dim s → PiecesBytes cs → Demand3 dim s (run_of dim s cs)
