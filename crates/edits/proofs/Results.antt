-- A call of a session is refused, or is an edit or an undo that is made: what holds of these three holds of every call.
use Prim.Native.Nat.{ℕ, ◌*◌}
use mathlib.Core.Bool.{not}
use mathlib.Core.List.{List}
use mathlib.Core.Option.{none, some}
use lib.ListN.{length}
use lib.Dec.{eqb}
use Rattle.words.specs.Words.{words}
use Rattle.names.specs.Names.{packed}
use Rattle.files.specs.Spots.{spots_of}
use Rattle.edits.specs.Edits.{Edit, mark, insert, remove}
use Rattle.edits.specs.Allowed.{Fault?, fine, fault, or_else, unless, rename_fault, edit_fault}
use Rattle.edits.specs.Records.{Newest, last_record}
use Rattle.edits.specs.Calls.{Session, size_of, Call, mark_call, rename_call, insert_call, remove_call, undo_call, journal_of, words_of, name_of_text, text_ok}
use Rattle.edits.specs.Calls.{Outcome, refused, result_by, open_fault, words_by, record_by, edit_made, edit_within, edited, words_back, undo_made, reversal_fault, undo_by, undone, call_on, step}

module _ (dim : ℕ) (s : Session) (P : Outcome → Type 0) (no : (n p : ℕ) → P (refused s n p)) (edit : (ws r : List ℕ) → P (edit_made dim s ws r)) (undo : (ws : List ℕ) (jused : ℕ) → P (undo_made dim s ws jused)) where
  of_fault : (f : Fault?) (q : Outcome) → P q → P (result_by f s q)
  of_fault fine q h = h
  of_fault (fault n p) q h = no n p

  of_edit : (e : Edit) (own : Fault?) → P (edited dim s e own)
  unfolding edited
  of_edit e own = of_fault (or_else own (edit_within dim s (words_by dim s e) (record_by dim s e))) _ (edit (words_by dim s e) (record_by dim s e))

  of_undo : (l : Newest) → P (undo_by dim s (words_of s) l)
  of_undo none = no 19 0
  of_undo (some l) =
      of_fault (reversal_fault dim (words_of s) (length s.file) (size_of s.index) l.0) _ (undo (words_back dim (words_of s) l.0) (2 * length l.1))

  of_call : (c : Call) → P (call_on dim s (words_of s) c)
  unfolding undone
  of_call (mark_call p deleted) = of_edit (mark p deleted) (edit_fault dim (words_of s) (mark p deleted))
  of_call (rename_call p text) = of_edit (name_of_text (packed text) p) (rename_fault (spots_of dim (words_of s)) (words_of s) p (text_ok (packed text)))
  of_call (insert_call h p piece) = of_edit (insert h p (words piece)) (edit_fault dim (words_of s) (insert h p (words piece)))
  of_call (remove_call p) = of_edit (remove p) (edit_fault dim (words_of s) (remove p))
  of_call undo_call = of_fault (unless (not (eqb s.jused 0)) 17) _ (of_undo (last_record (journal_of s)))

  pub every_result : (c : Call) → P (step dim s c)
  unfolding step
  every_result c = of_fault (open_fault dim s c) _ (of_call c)
