-- The calls of a session on its lent buffers, with their refusals in order (RULES.md, "Order of checks") and what every byte and
-- length then is.
use Rattle.std.specs.Prelude.{ℕ, ◌+◌, ◌-◌, ◌*◌, max, List, [], ◌∷◌, ◌++◌, Bool, true, false, not, ◌&&◌, length, take, drop, replicate, eqb, leb, Err, Ok, Result}
use Rattle.std.proofs.Math.Option.{Option, none, some}
use Rattle.refusals.specs.Refusals.{refused_with}
use Rattle.refusals.specs.declared.Refusal.{Refusal}
use Rattle.words.specs.Words.{words, bytes, word_at, over}
use Rattle.names.specs.Names.{packed}
use Rattle.names.specs.declared.Name.{Name}
use Rattle.limits.specs.Limits.{dim_ok, size_ok, used_ok}
use Rattle.files.specs.Judge.{top_of}
use Rattle.files.specs.Spots.{spots_of}
use Rattle.files.specs.declared.Judgement.{Judgement}
use Rattle.entries.specs.Entries.{shown, entries_ok}
use Rattle.cells.specs.Index.{index_of, index_bytes}
use Rattle.edits.specs.Edits.{Edit, mark, rename, insert, remove, apply}
use Rattle.edits.specs.Allowed.{Fault?, fine, fault, or_else, unless, edit_fault, rename_fault}
use Rattle.edits.specs.Records.{Rec, Newest, record_of, record_words, last_record, reversal, reversible}
use Rattle.edits.specs.UsedLengths.{made_with}
use Rattle.edits.specs.declared.UsedLengths.{UsedLengths}

-- an index that is lent: its buffer, and its used length in bytes
pub record Index : Type 0 where
  pub buffer : List ℕ
  pub iused : ℕ

-- a session: the file's buffer and used length, the journal's buffer and used length, in bytes, and an index, or none
pub record Session : Type 0 where
  pub file : List ℕ
  pub used : ℕ
  pub journal : List ℕ
  pub jused : ℕ
  pub index : Option Index

-- the length of an index's buffer
abbrev pub size_of : Option Index → Option ℕ
size_of none = none
size_of (some i) = some (length i.buffer)

-- 1 unless the used length of an index is whole entries and within its buffer, which may have any length
abbrev pub index_ok : Option Index → Bool
index_ok none = true
index_ok (some i) = entries_ok (length i.buffer) i.iused

-- whether the index of a file's words fits a buffer of that length
abbrev pub index_fits : ℕ → List ℕ → Option ℕ → Bool
index_fits dim ws none = true
index_fits dim ws (some n) = leb (index_bytes dim ws) n

-- the index of a file's words built afresh in a buffer of that length, zeros past it
abbrev pub afresh : ℕ → List ℕ → Option ℕ → Option Index
afresh dim ws none = none
afresh dim ws (some n) = some (record { buffer = shown n (index_of dim ws); iused = index_bytes dim ws })

-- the calls with their arguments; texts and pieces are bytes
pub data Call : Type 0 where
  mark_call : ℕ → Bool → Call
  rename_call : ℕ → List ℕ → Call
  insert_call : Option ℕ → ℕ → List ℕ → Call
  remove_call : ℕ → Call
  undo_call : Call

-- the used words
abbrev pub used_words : List ℕ → ℕ → List ℕ
used_words s n = words (take n s)

-- those of a session's file, and of its journal
abbrev pub words_of : Session → List ℕ
words_of s = used_words s.file s.used

abbrev pub journal_of : Session → List ℕ
journal_of s = used_words s.journal s.jused

-- a used file ends in the word 65535
abbrev pub ends_in_marker : List ℕ → Bool
ends_in_marker ws = leb 1 (length ws) && eqb (word_at ws (length ws - 1)) 65535

-- 1 unless the dimension, the buffers, the used lengths, an index's too, and the last used word are right
unfoldable pub session_ok : ℕ → Session → Bool
session_ok dim s =
    index_ok s.index
    && (dim_ok dim
    && (used_ok (length s.file) s.used && (used_ok (length s.journal) s.jused && ends_in_marker (words_of s))))

-- 1 unless the piece of an insert may be lent
abbrev pub piece_ok : Call → Bool
piece_ok (mark_call p deleted) = true
piece_ok (rename_call p text) = true
piece_ok (insert_call h p piece) = size_ok (length piece)
piece_ok (remove_call p) = true
piece_ok undo_call = true

-- the file's own refusals, then 1 if the marker is found before the last used word
abbrev pub file_fault : Result Judgement Refusal → ℕ → Fault?
file_fault (Ok judged) last = unless (eqb judged.next last) 1
file_fault (Err refusal) last = fault refusal.number refusal.place

-- the refusal of a session: 1, then these; fine where it opens
unfoldable pub session_fault : ℕ → Session → Fault?
session_fault dim s =
    or_else (unless (session_ok dim s) 1)
    (file_fault (top_of dim (words_of s)) (length (words_of s) - 1))

-- the refusal of a call before its other arguments count: 1 for a piece that may not be lent, then the session's
unfoldable pub open_fault : ℕ → Session → Call → Fault?
open_fault dim s c = or_else (unless (piece_ok c) 1) (session_fault dim s)

-- the buffer with the words ws used: zero where words were freed, and the rest as it was
unfoldable pub stored : List ℕ → ℕ → List ℕ → List ℕ
stored s n ws = bytes ws ++ (replicate (n - 2 * length ws) 0 ++ drop (max n (2 * length ws)) s)

-- the buffer with the words ws behind its n used bytes
abbrev pub pushed : List ℕ → ℕ → List ℕ → List ℕ
pushed s n ws = over s n (bytes ws)

-- what a call answers and what it leaves
pub record Outcome : Type 0 where
  pub answer : Result UsedLengths Refusal
  pub after : Session

abbrev pub refused : Session → ℕ → ℕ → Outcome
refused s n p = record { answer = refused_with n p; after = s }

-- the session with the words ws used, this journal, and a lent index of these words built afresh
abbrev pub session_made : ℕ → Session → List ℕ → List ℕ → ℕ → Session
session_made dim s ws journal jused = record {
  file = stored s.file s.used ws;
  used = 2 * length ws;
  journal = journal;
  jused = jused;
  index = afresh dim ws (size_of s.index);
}

-- an edit made: ws are the used words after it, the record's words r stand behind the journal
unfoldable pub edit_made : ℕ → Session → List ℕ → List ℕ → Outcome
edit_made dim s ws r = record {
  answer = made_with (2 * length ws) (s.jused + 2 * length r);
  after = session_made dim s ws (pushed s.journal s.jused r) (s.jused + 2 * length r);
}

-- the words fit a file's buffer of so many bytes, and their index an index's, if there is one
abbrev pub room_for : ℕ → ℕ → Option ℕ → List ℕ → Bool
room_for dim size beside ws = index_fits dim ws beside && leb (2 * length ws) size

-- 15, of the file and of the index, and 16, before anything changes
unfoldable pub edit_within : ℕ → Session → List ℕ → List ℕ → Fault?
edit_within dim s ws r =
    or_else (unless (room_for dim (length s.file) (size_of s.index) ws) 15)
    (unless (leb (s.jused + 2 * length r) (length s.journal)) 16)

abbrev pub result_by : Fault? → Session → Outcome → Outcome
result_by fine s r = r
result_by (fault n p) s r = refused s n p

-- the used words after an edit, and its record's words
abbrev pub words_by : ℕ → Session → Edit → List ℕ
words_by dim s e = apply dim (words_of s) e

abbrev pub record_by : ℕ → Session → Edit → List ℕ
record_by dim s e = record_words (record_of dim (words_of s) e)

-- an edit on the used words: its own refusals, 15, 16, or it is made
unfoldable pub edited : ℕ → Session → Edit → Fault? → Outcome
edited dim s e own =
    result_by (or_else own (edit_within dim s (words_by dim s e) (record_by dim s e))) s (edit_made dim s (words_by dim s e) (record_by dim s e))

-- an undo made: the words ws used, the journal's bytes as they were and its used length back before the record
unfoldable pub undo_made : ℕ → Session → List ℕ → ℕ → Outcome
undo_made dim s ws jused = record { answer = made_with (2 * length ws) jused; after = session_made dim s ws s.journal jused }

-- the words after a record's reversal
abbrev pub words_back : ℕ → List ℕ → Rec → List ℕ
words_back dim ws rec = apply dim ws (reversal ws rec)

-- 19 and 15 of a record's reversal on the words ws, in buffers of so many bytes
abbrev pub reversal_fault : ℕ → List ℕ → ℕ → Option ℕ → Rec → Fault?
reversal_fault dim ws size beside rec =
    or_else (unless (reversible dim ws rec) 19) (unless (room_for dim size beside (words_back dim ws rec)) 15)

-- an undo by the last record: 19 where it is ill-formed or may not be reversed, 15, or it is made
abbrev pub undo_by : ℕ → Session → List ℕ → Newest → Outcome
undo_by dim s ws none = refused s 19 0
undo_by dim s ws (some l) =
    result_by (reversal_fault dim ws (length s.file) (size_of s.index) l.0) s
    (undo_made dim s (words_back dim ws l.0) (2 * length l.1))

-- an undo: 17 where the journal is empty, then these
unfoldable pub undone : ℕ → Session → Outcome
undone dim s =
    result_by (unless (not (eqb s.jused 0)) 17) s
    (undo_by dim s (words_of s) (last_record (journal_of s)))

-- the rename that a text asks for (of a bad text any, since it is refused), and whether the text is good
abbrev pub name_of_text : Result Name Refusal → ℕ → Edit
name_of_text (Ok name) p = rename p name.first name.second
name_of_text (Err refusal) p = rename p 0 0

abbrev pub text_ok : Result Name Refusal → Bool
text_ok (Ok name) = true
text_ok (Err refusal) = false

-- what each call asks
abbrev pub call_on : ℕ → Session → List ℕ → Call → Outcome
call_on dim s ws (mark_call p deleted) = edited dim s (mark p deleted) (edit_fault dim ws (mark p deleted))
call_on dim s ws (rename_call p text) =
    edited dim s (name_of_text (packed text) p) (rename_fault (spots_of dim ws) ws p (text_ok (packed text)))
call_on dim s ws (insert_call h p piece) = edited dim s (insert h p (words piece)) (edit_fault dim ws (insert h p (words piece)))
call_on dim s ws (remove_call p) = edited dim s (remove p) (edit_fault dim ws (remove p))
call_on dim s ws undo_call = undone dim s

-- one call
unfoldable pub step : ℕ → Session → Call → Outcome
step dim s c = result_by (open_fault dim s c) s (call_on dim s (words_of s) c)

-- the numbers of each answer: 0 and the used lengths, or the refusal's number and place
abbrev pub edited_numbers : Result UsedLengths Refusal → List ℕ
edited_numbers (Ok lengths) = 0 ∷ lengths.used ∷ lengths.jused ∷ []
edited_numbers (Err refusal) = refusal.number ∷ refusal.place ∷ []
