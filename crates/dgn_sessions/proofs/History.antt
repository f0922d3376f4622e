-- What dgn_record answers after an edit that is made, and after an undo.
use Prim.Native.Nat.{ℕ, ◌+◌, ◌*◌, ◌≤◌}
use mathlib.Core.Path.{◌≡◌, refl, sym, subst, ◌∙◌}
use mathlib.Core.Bool.{Bool, true, false, not, false≢true}
use mathlib.Core.List.{List, ◌++◌}
use mathlib.Core.Option.{none, some}
use native.Mathlib.Omega.{arith}
use lib.ListN.{length, take, drop}
use lib.Seq.{take-append-le, take-take, length-take-le}
use lib.Dec.{eqb}
use borrow.Author.Tests.{eqb-false, ne_eqb}
use Rattle.std.specs.Prelude.{Err, Ok, Result}
use Rattle.refusals.specs.declared.Refusal.{Refusal}
use Rattle.words.specs.Words.{Below, words, bytes, over}
use Rattle.words.proofs.Laws.{words_below}
use Rattle.names.specs.Names.{packed}
use Rattle.names.proofs.OneToOne.{pack_stored}
use Rattle.names.specs.declared.Name.{Name}
use Rattle.edits.specs.Edits.{Edit, mark, rename, insert, remove}
use Rattle.edits.specs.Allowed.{Fault?, fine, fault, unless, edit_fault}
use Rattle.edits.specs.Records.{Rec, Newest, record_of, record_words, last_record}
use Rattle.edits.specs.Calls.{Session, size_of, Call, mark_call, rename_call, insert_call, remove_call, undo_call, words_of, journal_of, piece_ok, open_fault, session_fault, pushed, Outcome, result_by, words_by, record_by, edit_made, undo_made, words_back, reversal_fault, undo_by, undone, step}
use Rattle.edits.specs.Book.{was_refused}
use Rattle.edits.specs.Demand.{PieceBytes, used_bytes}
use Rattle.edits.specs.Made.{rename_of, edit_of, Allowed}
use Rattle.edits.proofs.Accepted.{Carried, Sound}
use Rattle.edits.proofs.Allowed.{edit_made_lem, step_edit, made_exactly}
use Rattle.edits.proofs.Bounds.{below_take}
use Rattle.edits.proofs.Buffers.{used_holds, holds_ok, holds_pushed}
use Rattle.edits.proofs.Faults.{or_else_fine}
use Rattle.edits.proofs.Journal.{reads, record_below, record_long}
use Rattle.edits.proofs.Sound.{sound}
use Rattle.edits.proofs.Tested.{used_parts, ready_tested, used_call}
use Rattle.opening.proofs.Opening.{open_accepted}
use Rattle.opening.proofs.Accepted.{standing}
use Rattle.opening.proofs.Beside.{bare_ready}
use Rattle.answers.proofs.Elements.{call_words}
use Rattle.dgn_record.specs.LastRecord.{record_reply}
use Rattle.dgn_sessions.specs.History.{Newer, EditShown, Older, UndoShown}

---- an edit

-- what an edit carries are words
text_carried : (p : ℕ) (text : List ℕ) (e : Edit) (q : Result Name Refusal) → packed text ≡ q → rename_of q p ≡ some e → Carried e
text_carried p text e (Ok name) t h =
    let is : rename p name.first name.second ≡ e = cc in
    let s = pack_stored text name.first name.second t in
    subst Carried is (s.first, s.second)
text_carried p text e (Err refusal) t h = let z : ◌≡◌ {A = ℕ} 0 1 = cc in absurd (omega arith)

carried : (c : Call) (e : Edit) → edit_of c ≡ some e → PieceBytes c → Carried e
carried (mark_call p d) e h b = let is : mark p d ≡ e = cc in subst Carried is tt
carried (rename_call p text) e h b = text_carried p text e (packed text) refl h
carried (insert_call g p piece) e h b = let is : insert g p (words piece) ≡ e = cc in subst Carried is (words_below piece b)
carried (remove_call p) e h b = let is : remove p ≡ e = cc in subst Carried is tt
carried undo_call e h b = let z : ◌≡◌ {A = ℕ} 0 1 = cc in absurd (omega arith)

-- used bytes before a push stay
pushed_front : (s : List ℕ) (n : ℕ) (x : List ℕ) (used : ℕ) → used ≤ n → n ≤ length s → take used (pushed s n x) ≡ take used s
unfolding over
pushed_front s n x used h l =
    let long = length-take-le n s l in
    take-append-le used (take n s) (bytes x ++ drop (n + length (bytes x)) s) (omega arith) ∙ take-take used n s h

module _ (dim : ℕ) (s : Session) (c : Call) (e : Edit) (is : edit_of c ≡ some e) (file : Below 256 s.file) (journal : Below 256 s.journal) (piece : PieceBytes c) (a : Allowed dim s c e) where
  ready : session_fault dim s ≡ fine
  unfolding open_fault
  ready = (or_else_fine (unless (piece_ok c) 1) (session_fault dim s) a.opens).1

  small : Sound dim (words_of s) e
  small =
      let t = ready_tested dim s ready in
      sound dim (words_of s) e
      (standing dim (used_bytes s) _ (open_accepted dim s.file s.used s.journal s.jused (bare_ready dim s ready)) (below_take 256 s.used s.file (omega arith) file))
      (call_words dim (used_bytes s) (used_call t)) a.own (carried c e is piece)

  after_edit : Newer dim s (edit_made dim s (words_by dim s e) (record_by dim s e)).after e
  unfolding edit_made record_reply
  after_edit =
      let t = ready_tested dim s ready in
      let r = record_by dim s e in
      let rec = record_of dim (words_of s) e in
      let held = used_holds s.journal s.jused journal t.journal in
      let now = holds_pushed held r (record_below rec small.small) a.journal_room in
      let six = record_long rec in
      let used = held.used in
      record {
        newest =
            rw (holds_ok now s.journal refl (used_parts (length s.journal) s.jused t.journal).size_ok_lem, ne_eqb (s.jused + 2 * length (record_words (record_of dim (words_of s) e))) 0 (λ z. omega arith), now.words, reads (journal_of s) rec small.small, ← used)
            refl;
        older = λ u h. rw (now.whole, pushed_front s.journal s.jused r u h held.within) refl;
      }

pub edit_shown : EditShown
edit_shown dim s c e is file journal piece q =
    let a = (made_exactly dim s c e is).0 q in
    let made = step_edit dim s c e a.opens is ∙ edit_made_lem dim s e (edit_fault dim (words_of s) e) a.own a.file_room a.index_room a.journal_room in
    subst (λ r. Newer dim s r.after e) (sym made) (after_edit dim s c e is file journal piece a)

---- an undo

module _ (dim : ℕ) (s : Session) where
  not_made : {A : Type 0} → true ≡ false → A
  not_made e = absurd (false≢true (sym e))

  abbrev Goes : Outcome → Type 0
  Goes r = was_refused r.answer ≡ false → Older s r.after

  back : (r : Rec) (js : List ℕ) → session_fault dim s ≡ fine → (s.jused ≡ 0 → ⊥) → last_record (journal_of s) ≡ some (r, js) → (f : Fault?) →
      Goes (result_by f s (undo_made dim s (words_back dim (words_of s) r) (2 * length js)))
  unfolding undo_made record_reply
  back r js o u k fine q = record { newest = r; was = rw ((ready_tested dim s o).journal, ne_eqb s.jused 0 u, k) refl; older = λ used. refl }
  back r js o u k (fault n p) q = not_made q

  undo_by_lem : session_fault dim s ≡ fine → (s.jused ≡ 0 → ⊥) → (l : Newest) → last_record (journal_of s) ≡ l → Goes (undo_by dim s (words_of s) l)
  undo_by_lem o u none k = not_made
  undo_by_lem o u (some (r, js)) k = back r js o u k (reversal_fault dim (words_of s) (length s.file) (size_of s.index) r)

  undo_used : session_fault dim s ≡ fine → (b : Bool) → eqb s.jused 0 ≡ b → Goes (result_by (unless (not b) 17) s (undo_by dim s (words_of s) (last_record (journal_of s))))
  undo_used o true e = not_made
  undo_used o false e = undo_by_lem o (eqb-false s.jused 0 e) (last_record (journal_of s)) refl

  undo_open : (f : Fault?) → session_fault dim s ≡ f → Goes (result_by f s (undone dim s))
  unfolding undone
  undo_open fine o = undo_used o (eqb s.jused 0) refl
  undo_open (fault n p) o = not_made

pub undo_shown : UndoShown
unfolding step open_fault
undo_shown dim s = undo_open dim s (session_fault dim s) refl
