-- The history that dgn_record gives of a session's journal, newest first: an edit that is made puts its record in front, an undo
-- takes the newest off. So it is the edits that were made and not undone.
use Rattle.std.specs.Prelude.{ℕ, ◌≤◌, ◌≡◌, ◌≢◌, false, List, [], ◌∷◌, ◌++◌, length, get_or, take}
use Rattle.std.proofs.Math.Option.{some}
use Rattle.words.specs.Words.{Below}
use Rattle.edits.specs.Edits.{Edit, apply}
use Rattle.edits.specs.Records.{Rec, record_of}
use Rattle.edits.specs.Calls.{Session, Call, undo_call, words_of, step}
use Rattle.edits.specs.Book.{Run, was_refused}
use Rattle.edits.specs.Demand.{OpenedEmpty, PieceBytes, PiecesBytes}
use Rattle.edits.specs.Made.{edit_of}
use Rattle.answers.specs.Answers.{Reply, done, Replied}
use Rattle.dgn_record.specs.LastRecord.{record_numbers, record_reply}
use Rattle.dgn_sessions.specs.Exports.{Export, calls_of, Called}

-- what dgn_record answers of a session's journal with so many bytes used
abbrev pub shown : Session → ℕ → Reply ℕ
shown s used = record_reply s.journal used

-- the edit e is the newest of the session t, behind what the session s had
pub record Newer (dim : ℕ) (s t : Session) (e : Edit) : Type 0 where
  pub newest : shown t t.jused ≡ done (record_numbers (record_of dim (words_of s) e) s.jused)
  pub older : (used : ℕ) → used ≤ s.jused → shown t used ≡ shown s used

abbrev pub EditShown : Type 0
EditShown =
    (dim : ℕ) (s : Session) (c : Call) (e : Edit) → edit_of c ≡ some e → Below 256 s.file → Below 256 s.journal → PieceBytes c →
    was_refused (step dim s c).answer ≡ false → Newer dim s (step dim s c).after e

-- the session t has what s had behind its newest
pub record Older (s t : Session) : Type 0 where
  pub newest : Rec
  pub was : shown s s.jused ≡ done (record_numbers newest t.jused)
  pub older : (used : ℕ) → shown t used ≡ shown s used

abbrev pub UndoShown : Type 0
UndoShown = (dim : ℕ) (s : Session) → was_refused (step dim s undo_call).answer ≡ false → Older s (step dim s undo_call).after

---- the whole history

-- the records of edits made one after another on words, the newest first
abbrev pub records_of : ℕ → List ℕ → List Edit → List Rec
records_of dim ws [] = []
records_of dim ws (e ∷ es) = records_of dim (apply dim ws e) es ++ (record_of dim ws e ∷ [])

-- of a record its kind, header place, place and number of payload words
abbrev pub four_of : List Rec → List (List ℕ)
four_of [] = []
four_of (r ∷ rs) = take 4 (record_numbers r 0) ∷ four_of rs

-- dgn_record called again and again on a journal, first with a used length, then each time with the one before the record that it
-- gave, until it is refused, with any slices that hold its five numbers, and any answers that its contract allows: the first four
-- numbers of each record, and the last answer
pub data WalkedBack (journal : List ℕ) : ℕ → List (List ℕ) → ℕ → Type 0 where
  ends : {used n : ℕ} (out t : List ℕ) → 5 ≤ length out → Replied 5 (record_reply journal used) out n t → n ≢ 0 → WalkedBack journal used [] n
  goes_on : {used n : ℕ} {given : List (List ℕ)} (out t : List ℕ) → 5 ≤ length out → Replied 5 (record_reply journal used) out 0 t →
      WalkedBack journal (get_or t 4 0) given n → WalkedBack journal used (take 4 t ∷ given) n

-- it gives the records of the book's edits, those made and not undone, each once, the newest first, and then 17; and it does end
pub record HistoryOf (dim : ℕ) (s : Session) (last : Run) : Type 0 where
  pub is : (given : List (List ℕ)) (n : ℕ) → WalkedBack last.session.journal last.session.jused given n →
      (given ≡ four_of (records_of dim (words_of s) last.book)) × (n ≡ 17)
  pub is_there : (given : List (List ℕ)) × (n : ℕ) × WalkedBack last.session.journal last.session.jused given n

-- of every list of calls of the functions, with an index and without, on a session that opens with an empty journal
abbrev pub EveryHistory : Type 0
EveryHistory =
    (dim : ℕ) (s : Session) (xs : List Export) (last : Run) → OpenedEmpty dim s → PiecesBytes (calls_of xs) →
    Called dim (record { session = s; book = [] }) xs last → HistoryOf dim s last
