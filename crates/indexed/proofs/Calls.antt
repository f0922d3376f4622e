-- Each call, by what its parts answer and leave: the count of cells, the room that the journal is lent with, the call without an
-- index, the index built at last.
use Prim.Native.Nat.{ℕ, ◌+◌, ◌-◌, ◌*◌, ◌/◌, ◌≤◌}
use mathlib.Core.Path.{◌≡◌, refl, ◌∙◌}
use mathlib.Core.Bool.{Bool, true, false, cond, not}
use mathlib.Core.List.{List, ◌++◌}
use mathlib.Core.Option.{Option, none}
use native.Mathlib.Omega.{arith}
use lib.ListN.{length, take, drop}
use lib.Dec.{leb}
use Rattle.words.specs.Words.{words, Below}
use Rattle.names.specs.Names.{packed}
use Rattle.files.specs.Spots.{spots_of}
use Rattle.cells.specs.Cells.{cells_between}
use Rattle.cell_edits.specs.After.{number_after}
use Rattle.edits.specs.Edits.{Edit, mark, insert, remove}
use Rattle.edits.specs.Allowed.{Fault?, fine, rename_fault, edit_fault}
use Rattle.edits.specs.Calls.{Index, Session, Call, mark_call, rename_call, insert_call, remove_call, undo_call, used_words, session_fault, edited, name_of_text, text_ok, call_on}
use Rattle.edits.specs.Demand.{PieceBytes}
use Rattle.edits.proofs.Bounds.{below_take}
use Rattle.opening.specs.Opening.{session_with, session_of}
use Rattle.opening.specs.Steps.{Leaves, Stepped}
use Rattle.opening.proofs.Beside.{bare_ready}
use Rattle.opening.proofs.Opening.{lengths_true}
use Rattle.undoing.specs.Undoing.{undo_told}
use Rattle.undoing.proofs.Ways.{told_step}
use Rattle.indexed.specs.Indexed.{index_lent, session_indexed, SteppedWith}
use Rattle.indexed.specs.Parts.{lent_ok, cells_used, cells_under, MayCount, CellsBack, Finishable, Finished}
use Rattle.indexed.proofs.Made.{text_allowed}
use Rattle.indexed.proofs.Others.{Other, mark_other, rename_other, insert_other, remove_other}
use Rattle.indexed.proofs.Numbers as numbers
use Rattle.indexed.proofs.Ways.{told_none, tests, used_in, jused_in, edit_stepped, finishable, complete}
use Rattle.std.specs.Prelude.{Err, Ok, Result}
use Rattle.edits.specs.declared.UsedLengths.{UsedLengths}
use Rattle.indexed.specs.declared.AllLengths.{AllLengths}
use Rattle.names.specs.declared.Name.{Name}
use Rattle.refusals.specs.declared.Refusal.{Refusal}

-- what a call is lent, where the three used lengths are right
pub record Lent : Type 0 where
  pub dim : ℕ
  pub file : List ℕ
  pub used : ℕ
  pub journal : List ℕ
  pub jused : ℕ
  pub index : List ℕ
  pub iused : ℕ
  pub ok : lent_ok (length file) used (length journal) jused (length index) iused ≡ true
  pub below : Below 256 file
  pub journal_below : Below 256 journal

-- the session, and that without an index whose journal is lent in part
abbrev pub session : Lent → Session
session l = session_indexed l.file l.used l.journal l.jused l.index l.iused

abbrev pub cut : Lent → ℕ → Session
cut l room = session_of l.file l.used (take room l.journal) l.jused

-- what a call owes
abbrev pub Owes : Lent → Call → Result AllLengths Refusal → List ℕ → List ℕ → List ℕ → Type 0
Owes l c r file' journal' index' = SteppedWith l.dim l.file l.used l.journal l.jused l.index l.iused c r file' journal' index'

room_in : (full : Bool) (jused size room : ℕ) → jused ≤ size → room ≡ cond full jused size → room ≤ size
room_in true jused size room h e = omega arith
room_in false jused size room h e = omega arith

module _ (l : Lent) where
  abbrev ws : List ℕ
  ws = used_words l.file l.used

  pub may_count : MayCount l.file l.used l.journal l.jused
  may_count =
      record {
        used_within = used_in l.dim l.file l.used l.journal l.jused l.index l.iused l.ok l.below;
        small = (lengths_true (length l.file) l.used (tests l.dim l.file l.used l.journal l.jused l.index l.iused l.ok l.below).0).small;
        jused_within = jused_in l.dim l.file l.used l.journal l.jused l.index l.iused l.ok l.below;
      }

  -- the room that the journal is lent with
  pub room_fits : (full : Bool) (room : ℕ) → room ≡ cond full l.jused (length l.journal) → room ≤ length l.journal
  room_fits full room e = room_in full l.jused (length l.journal) room may_count.jused_within e

  pub finishes : (c : Call) → PieceBytes c → (room : ℕ) (r : Result UsedLengths Refusal) (file' part : List ℕ) → Stepped l.dim (cut l room) c r file' part → Finishable r (length file')
  finishes c piece room r file' part t =
      finishable l.dim l.file l.used l.journal l.jused l.index l.iused l.ok l.below c piece (take room l.journal) none
      (below_take 256 room l.journal (omega arith) l.journal_below) r file' part t

  bare : session_fault l.dim (session l) ≡ fine → session_fault l.dim (session_of l.file l.used l.journal l.jused) ≡ fine
  bare = bare_ready l.dim (session l)

  ---- the edits

  -- n cells will be there, the index is full or not, the journal is lent with a room, the call without an index answers r, and all is finished
  module _ (n : ℕ) (full : Bool) (is : full ≡ not (leb (8 * n) (length l.index))) (room : ℕ) (lent : room ≡ cond full l.jused (length l.journal))
      (r : Result UsedLengths Refusal) (file' part : List ℕ) (r' : Result AllLengths Refusal) (index' : List ℕ) (f : Finished r full file' l.index r' index') where
    module _ (c : Call) (piece : PieceBytes c) (e : Edit) (own : Fault?)
        (asks : (j : List ℕ) (x : Option Index) → call_on l.dim (session_with l.file l.used j l.jused x) ws c ≡ edited l.dim (session_with l.file l.used j l.jused x) e own)
        (own_fine : session_fault l.dim (session l) ≡ fine → own ≡ fine → edit_fault l.dim ws e ≡ fine) (other : Other own)
        (number : session_fault l.dim (session l) ≡ fine → edit_fault l.dim ws e ≡ fine → n ≡ number_after l.dim ws e) where
      edit_done : Stepped l.dim (cut l room) c r file' part → Owes l c r' file' (part ++ drop room l.journal) index'
      edit_done t =
          complete l.dim l.file l.used l.journal l.jused l.index l.iused l.ok l.below c piece l.journal_below full r file' (part ++ drop room l.journal) r' index'
          (edit_stepped l.dim l.file l.used l.journal l.jused l.index l.iused l.ok l.below c e own n full asks own_fine other number is room lent r file' part t) f

    pub mark_done : (p : ℕ) (d : Bool) → n ≡ cells_used l.file l.used → Stepped l.dim (cut l room) (mark_call p d) r file' part →
        Owes l (mark_call p d) r' file' (part ++ drop room l.journal) index'
    mark_done p d e =
        edit_done (mark_call p d) tt (mark p d) (edit_fault l.dim ws (mark p d)) (λ j x. refl) (λ ready g. g) (mark_other l.dim ws p d)
        (λ ready g. e ∙ numbers.mark_number l.dim l.file l.used l.journal l.jused l.below (bare ready) p d)

    name_number : session_fault l.dim (session l) ≡ fine → (p : ℕ) (q : Result Name Refusal) → cells_used l.file l.used ≡ number_after l.dim ws (name_of_text q p)
    name_number ready p (Ok name2) = numbers.rename_number l.dim l.file l.used l.journal l.jused l.below (bare ready) p name2.first name2.second
    name_number ready p (Err refusal) = numbers.rename_number l.dim l.file l.used l.journal l.jused l.below (bare ready) p 0 0

    pub rename_done : (p : ℕ) (text : List ℕ) → n ≡ cells_used l.file l.used → Stepped l.dim (cut l room) (rename_call p text) r file' part →
        Owes l (rename_call p text) r' file' (part ++ drop room l.journal) index'
    rename_done p text e =
        let q = packed text in
        edit_done (rename_call p text) tt (name_of_text q p) (rename_fault (spots_of l.dim ws) ws p (text_ok q)) (λ j x. refl)
        (λ ready g. (text_allowed l.dim (session l) l.below ready p text q refl g).0) (rename_other (spots_of l.dim ws) ws p (text_ok q)) (λ ready g. e ∙ name_number ready p q)

    pub insert_done : (h : Option ℕ) (p : ℕ) (piece : List ℕ) → Below 256 piece → (m more : ℕ) → m ≡ cells_used l.file l.used → more ≡ length (cells_between (words piece) 0 (length piece / 2)) →
        n ≡ m + more → Stepped l.dim (cut l room) (insert_call h p piece) r file' part → Owes l (insert_call h p piece) r' file' (part ++ drop room l.journal) index'
    insert_done h p piece pb m more e k z =
        edit_done (insert_call h p piece) pb (insert h p (words piece)) (edit_fault l.dim ws (insert h p (words piece))) (λ j x. refl) (λ ready g. g) (insert_other l.dim ws h p (words piece))
        (λ ready g. rw (z, e, k) (numbers.insert_number l.dim l.file l.used l.journal l.jused l.below (bare ready) h p piece))

    pub remove_done : (p m under : ℕ) → m ≡ cells_used l.file l.used → under ≡ cells_under l.file l.used p → n ≡ m - under → Stepped l.dim (cut l room) (remove_call p) r file' part →
        Owes l (remove_call p) r' file' (part ++ drop room l.journal) index'
    remove_done p m under e k z =
        edit_done (remove_call p) tt (remove p) (edit_fault l.dim ws (remove p)) (λ j x. refl) (λ ready g. g) (remove_other l.dim ws p)
        (λ ready g. rw (z, e, k) (numbers.remove_number l.dim l.file l.used l.journal l.jused l.below (bare ready) p g))

  ---- undo

  module _ (n : ℕ) (full : Bool) (back : CellsBack l.file l.used l.journal l.jused n) (is : full ≡ not (leb (8 * n) (length l.index)))
      (r : Result UsedLengths Refusal) (file' : List ℕ) (t : Leaves (undo_told l.dim (session_of l.file l.used l.journal l.jused) full) r file' l.journal) where
    undo_stepped : Stepped l.dim (session l) undo_call r file' l.journal
    undo_stepped =
        told_step l.dim l.file l.used l.journal l.jused (index_lent l.index l.iused) full
        (tests l.dim l.file l.used l.journal l.jused l.index l.iused l.ok l.below).2 r file'
        (λ ready. numbers.fullness l.dim l.file l.used l.journal l.jused l.below ready l.index l.iused n full back is) t

    pub undo_finishes : Finishable r (length file')
    undo_finishes =
        finishable l.dim l.file l.used l.journal l.jused l.index l.iused l.ok l.below undo_call tt l.journal (index_lent l.index l.iused) l.journal_below r file' l.journal
        undo_stepped

    pub undo_done : (r' : Result AllLengths Refusal) (index' : List ℕ) → Finished r false file' l.index r' index' → Owes l undo_call r' file' l.journal index'
    undo_done r' index' f =
        complete l.dim l.file l.used l.journal l.jused l.index l.iused l.ok l.below undo_call tt l.journal_below false r file' l.journal r' index'
        (rw (told_none r) undo_stepped) f
