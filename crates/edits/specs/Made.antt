-- An edit is made exactly where nothing refuses it: the session opens, the edit's own refusals are none, and both buffers have
-- room (RULES.md, "Order of checks").
use Rattle.std.specs.Prelude.{ℕ, ◌+◌, ◌*◌, ◌≤◌, ◌≡◌, ◌↔◌, Bool, true, false, List, length, Err, Ok, Result}
use Rattle.std.proofs.Math.Option.{Option, none, some}
use Rattle.refusals.specs.declared.Refusal.{Refusal}
use Rattle.words.specs.Words.{words, word_at}
use Rattle.names.specs.Names.{packed}
use Rattle.names.specs.Name.{packed_to}
use Rattle.names.specs.declared.Name.{Name}
use Rattle.limits.specs.Limits.{size_ok}
use Rattle.headers.specs.Header.{type_at}
use Rattle.kinds.specs.Kinds.{is_cell}
use Rattle.files.specs.Spots.{spots_of}
use Rattle.edits.specs.Bits.{flag_size}
use Rattle.edits.specs.Edits.{Edit, mark, rename, insert, remove, extent_in, extent_places}
use Rattle.edits.specs.Allowed.{fine, starts_at, flag_differs, edit_fault}
use Rattle.edits.specs.Calls.{Session, size_of, index_fits, Call, mark_call, rename_call, insert_call, remove_call, undo_call, words_of, session_fault, open_fault, words_by, record_by, step}
use Rattle.edits.specs.Book.{was_refused}
use Rattle.edits.specs.UsedLengths.{made_with}

-- the rename that a text asks for, none where the text is no name
abbrev pub rename_of : Result Name Refusal → ℕ → Option Edit
rename_of (Ok name) p = some (rename p name.first name.second)
rename_of (Err refusal) p = none

-- the edit that a call asks for, none of an undo
abbrev pub edit_of : Call → Option Edit
edit_of (mark_call p deleted) = some (mark p deleted)
edit_of (rename_call p text) = rename_of (packed text) p
edit_of (insert_call h p piece) = some (insert h p (words piece))
edit_of (remove_call p) = some (remove p)
edit_of undo_call = none

-- nothing refuses the edit e that the call c asks for
pub record Allowed (dim : ℕ) (s : Session) (c : Call) (e : Edit) : Type 0 where
  -- neither 1 nor the file's own
  pub opens : open_fault dim s c ≡ fine
  -- none of its own
  pub own : edit_fault dim (words_of s) e ≡ fine
  -- not 15: the words after it fit the file's buffer
  pub file_room : 2 * length (words_by dim s e) ≤ length s.file
  -- nor by a lent index: the one after it fits
  pub index_room : index_fits dim (words_by dim s e) (size_of s.index) ≡ true
  -- not 16: its record fits behind the used journal
  pub journal_room : s.jused + 2 * length (record_by dim s e) ≤ length s.journal

-- it is refused nowhere else
abbrev pub MadeExactly : Type 0
MadeExactly = (dim : ℕ) (s : Session) (c : Call) (e : Edit) → edit_of c ≡ some e → was_refused (step dim s c).answer ≡ false ↔ Allowed dim s c e

-- and it answers the used lengths after it
abbrev pub EditsMade : Type 0
EditsMade =
    (dim : ℕ) (s : Session) (c : Call) (e : Edit) → edit_of c ≡ some e → Allowed dim s c e →
    (step dim s c).answer ≡ made_with (2 * length (words_by dim s e)) (s.jused + 2 * length (record_by dim s e))

---- the same in plain facts, of a session that opens; where an index is lent, the one after the edit fits it

-- the bytes of a mark's record: 12, and two for each sixteen elements of the extent, a part of sixteen too
abbrev pub mark_bytes : ℕ → List ℕ → ℕ → ℕ
mark_bytes dim ws p = 2 * flag_size (length (extent_places (spots_of dim ws) p)) + 12

-- an element starts at the place, its flag is not as wanted, and so many bytes of the journal are free
abbrev pub MarkMade : Type 0
MarkMade =
    (dim : ℕ) (s : Session) (p : ℕ) (deleted : Bool) → session_fault dim s ≡ fine → starts_at (spots_of dim (words_of s)) p ≡ true →
    index_fits dim (words_by dim s (mark p deleted)) (size_of s.index) ≡ true → flag_differs deleted (word_at (words_of s) p) ≡ true → s.jused + mark_bytes dim (words_of s) p ≤ length s.journal →
    (step dim s (mark_call p deleted)).answer ≡ made_with s.used (s.jused + mark_bytes dim (words_of s) p)

-- a cell starts at the place, the text is a name, and 16 bytes of the journal are free
abbrev pub RenameMade : Type 0
RenameMade =
    (dim : ℕ) (s : Session) (p : ℕ) (text : List ℕ) (a b : ℕ) → session_fault dim s ≡ fine → starts_at (spots_of dim (words_of s)) p ≡ true →
    index_fits dim (words_by dim s (rename p a b)) (size_of s.index) ≡ true →
    is_cell (type_at (words_of s) p) ≡ true → packed text ≡ packed_to a b → s.jused + 16 ≤ length s.journal →
    (step dim s (rename_call p text)).answer ≡ made_with s.used (s.jused + 16)

-- the place and the piece have no fault, the file's buffer has room for the piece, and 12 bytes of the journal are free
abbrev pub InsertMade : Type 0
InsertMade =
    (dim : ℕ) (s : Session) (h : Option ℕ) (p : ℕ) (piece : List ℕ) → session_fault dim s ≡ fine → size_ok (length piece) ≡ true →
    index_fits dim (words_by dim s (insert h p (words piece))) (size_of s.index) ≡ true →
    edit_fault dim (words_of s) (insert h p (words piece)) ≡ fine → s.used + length piece ≤ length s.file → s.jused + 12 ≤ length s.journal →
    (step dim s (insert_call h p piece)).answer ≡ made_with (s.used + length piece) (s.jused + 12)

-- an element starts at the place, and its extent and 12 bytes more of the journal are free
abbrev pub RemoveMade : Type 0
RemoveMade =
    (dim : ℕ) (s : Session) (p : ℕ) → session_fault dim s ≡ fine → starts_at (spots_of dim (words_of s)) p ≡ true →
    index_fits dim (words_by dim s (remove p)) (size_of s.index) ≡ true →
    s.jused + (2 * extent_in (spots_of dim (words_of s)) p + 12) ≤ length s.journal → was_refused (step dim s (remove_call p)).answer ≡ false
