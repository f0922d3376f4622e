-- Which refusal an edit, an insert's own checks and an undo answer where several causes hold: the first in the order of
-- RULES.md, "Order of checks".
use Rattle.std.specs.Prelude.{ℕ, ◌+◌, ◌*◌, ◌≤◌, ◌<◌, ◌≡◌, ◌↔◌, ◌≢◌, ◌⊎◌, true, false, List, [], ◌∷◌, length}
use Rattle.std.proofs.Math.Option.{Option, none, some}
use Rattle.refusals.specs.Refusals.{refused_with}
use Rattle.headers.specs.Header.{extent_at}
use Rattle.files.specs.Spots.{spots_of}
use Rattle.edits.specs.Edits.{Edit, insert, down_to}
use Rattle.edits.specs.Allowed.{fine, fault, gap_ok, piece_fault, edit_fault}
use Rattle.edits.specs.Records.{Rec, last_record, reversible}
use Rattle.edits.specs.Calls.{Session, size_of, index_fits, Call, undo_call, words_of, journal_of, session_fault, open_fault, words_by, record_by, words_back, step}
use Rattle.edits.specs.Made.{edit_of}

-- an edit e that the call c asks for, refused with n at p
pub data EditCause (dim : ℕ) (s : Session) (c : Call) (e : Edit) (n p : ℕ) : Type 0 where
  -- 1 and the file's own
  opening : open_fault dim s c ≡ fault n p → EditCause dim s c e n p
  -- the edit's own
  own : open_fault dim s c ≡ fine → edit_fault dim (words_of s) e ≡ fault n p → EditCause dim s c e n p
  -- 15: the words after it do not fit
  file_room : open_fault dim s c ≡ fine → edit_fault dim (words_of s) e ≡ fine → length s.file < 2 * length (words_by dim s e) →
      n ≡ 15 → p ≡ 0 → EditCause dim s c e n p
  -- 15: the index after it does not fit
  index_room : open_fault dim s c ≡ fine → edit_fault dim (words_of s) e ≡ fine → index_fits dim (words_by dim s e) (size_of s.index) ≡ false →
      n ≡ 15 → p ≡ 0 → EditCause dim s c e n p
  -- 16: both fit, and its record does not
  journal_room : open_fault dim s c ≡ fine → edit_fault dim (words_of s) e ≡ fine → 2 * length (words_by dim s e) ≤ length s.file →
      index_fits dim (words_by dim s e) (size_of s.index) ≡ true → length s.journal < s.jused + 2 * length (record_by dim s e) → n ≡ 16 → p ≡ 0 → EditCause dim s c e n p

abbrev pub EditRefused : Type 0
EditRefused =
    (dim : ℕ) (s : Session) (c : Call) (e : Edit) (n p : ℕ) → edit_of c ≡ some e →
    (step dim s c).answer ≡ refused_with n p ↔ EditCause dim s c e n p

-- p is the first of the headers, outermost first, that would have more than 65,535 words with n more
abbrev pub Outgrown : ℕ → List ℕ → List ℕ → ℕ → Type 0
Outgrown n ws [] p = ⊥
Outgrown n ws (q ∷ qs) p = ((65535 < extent_at ws q + n) × (p ≡ q)) ⊎ ((extent_at ws q + n ≤ 65535) × Outgrown n ws qs p)

-- an insert's own refusal with n at p: 13, then the piece's own, then 8
pub data InsertCause (dim : ℕ) (ws : List ℕ) (h : Option ℕ) (at : ℕ) (x : List ℕ) (n p : ℕ) : Type 0 where
  no_such : gap_ok (spots_of dim ws) ws h at ≡ false → n ≡ 13 → p ≡ 0 → InsertCause dim ws h at x n p
  piece : gap_ok (spots_of dim ws) ws h at ≡ true → piece_fault dim (spots_of dim ws) ws h x ≡ fault n p → InsertCause dim ws h at x n p
  total : gap_ok (spots_of dim ws) ws h at ≡ true → piece_fault dim (spots_of dim ws) ws h x ≡ fine → Outgrown (length x) ws (down_to (spots_of dim ws) h) p →
      n ≡ 8 → InsertCause dim ws h at x n p

abbrev pub InsertRefused : Type 0
InsertRefused =
    (dim : ℕ) (ws : List ℕ) (h : Option ℕ) (at : ℕ) (x : List ℕ) (n p : ℕ) →
    edit_fault dim ws (insert h at x) ≡ fault n p ↔ InsertCause dim ws h at x n p

-- an undo refused with n at p: 1 and the file's own, then 17, then 19, then 15
pub data UndoCause (dim : ℕ) (s : Session) (n p : ℕ) : Type 0 where
  opening : session_fault dim s ≡ fault n p → UndoCause dim s n p
  nothing : session_fault dim s ≡ fine → s.jused ≡ 0 → n ≡ 17 → p ≡ 0 → UndoCause dim s n p
  ill_formed : session_fault dim s ≡ fine → s.jused ≢ 0 → last_record (journal_of s) ≡ none → n ≡ 19 → p ≡ 0 → UndoCause dim s n p
  not_allowed : session_fault dim s ≡ fine → s.jused ≢ 0 → (r : Rec) (js : List ℕ) → last_record (journal_of s) ≡ some (r, js) →
      reversible dim (words_of s) r ≡ false → n ≡ 19 → p ≡ 0 → UndoCause dim s n p
  room : session_fault dim s ≡ fine → s.jused ≢ 0 → (r : Rec) (js : List ℕ) → last_record (journal_of s) ≡ some (r, js) →
      reversible dim (words_of s) r ≡ true → length s.file < 2 * length (words_back dim (words_of s) r) →
      n ≡ 15 → p ≡ 0 → UndoCause dim s n p
  index_room : session_fault dim s ≡ fine → s.jused ≢ 0 → (r : Rec) (js : List ℕ) → last_record (journal_of s) ≡ some (r, js) →
      reversible dim (words_of s) r ≡ true → index_fits dim (words_back dim (words_of s) r) (size_of s.index) ≡ false →
      n ≡ 15 → p ≡ 0 → UndoCause dim s n p

abbrev pub UndoRefused : Type 0
UndoRefused = (dim : ℕ) (s : Session) (n p : ℕ) → (step dim s undo_call).answer ≡ refused_with n p ↔ UndoCause dim s n p
