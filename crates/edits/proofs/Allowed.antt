-- A call that asks for an edit comes to `edited` with the edit's own refusals; it is made where these, 15 and 16 are none, and
-- refused where one of them is there.
use Prim.Native.Nat.{ℕ, ◌+◌, ◌*◌, ◌≤◌, ◌<◌}
use mathlib.Core.Path.{◌≡◌, refl, sym, ap, ◌∙◌}
use mathlib.Core.Bool.{Bool, true, false, ◌&&◌, false≢true, and-eq-true_iff}
use mathlib.Core.List.{List}
use mathlib.Core.Option.{some}
use native.Mathlib.Omega.{arith}
use lib.ListN.{length}
use lib.Dec.{leb}
use borrow.Author.Tests.{le-leb, lt-leb, leb-true}
use Rattle.std.specs.Prelude.{Err, Ok, Result}
use Rattle.refusals.specs.declared.Refusal.{Refusal}
use Rattle.words.specs.Words.{words}
use Rattle.names.specs.Names.{packed}
use Rattle.names.proofs.OneToOne.{pack_stored}
use Rattle.names.specs.declared.Name.{Name}
use Rattle.files.specs.Spots.{spots_of}
use Rattle.edits.specs.Edits.{Edit, mark, rename, insert, remove}
use Rattle.edits.specs.Allowed.{Fault?, fine, fault, or_else, unless, rename_fault, edit_fault}
use Rattle.edits.specs.Calls.{Session, size_of, index_fits, room_for, Call, mark_call, rename_call, insert_call, remove_call, undo_call, words_of, open_fault, words_by, record_by, Outcome, refused, result_by, edit_made, edit_within, edited, name_of_text, text_ok, call_on, step}
use Rattle.edits.specs.Book.{was_refused}
use Rattle.edits.specs.Made.{rename_of, edit_of, Allowed, MadeExactly, EditsMade}
use Rattle.edits.proofs.Faults.{or_else_fine, unless_fine}

-- a second test that fails
pub no_room : (a b : Bool) → b ≡ false → (a && b) ≡ false
no_room true b e = e
no_room false b e = refl

---- an edit, by its own refusals, 15 and 16

module _ (dim : ℕ) (s : Session) (e : Edit) (own : Fault?) where
  pub edit_own : (n p : ℕ) → own ≡ fault n p → edited dim s e own ≡ refused s n p
  unfolding edited
  edit_own n p f = rw f refl

  module _ (f : own ≡ fine) where
    -- 15 where one of the two does not fit
    room_refused : room_for dim (length s.file) (size_of s.index) (words_by dim s e) ≡ false → edited dim s e own ≡ refused s 15 0
    unfolding edited edit_within
    room_refused h = rw (f, h) refl

    pub edit_room : length s.file < 2 * length (words_by dim s e) → edited dim s e own ≡ refused s 15 0
    edit_room h = room_refused (no_room (index_fits dim (words_by dim s e) (size_of s.index)) (leb (2 * length (words_by dim s e)) (length s.file)) (lt-leb (2 * length (words_by dim s e)) (length s.file) h))

    pub edit_crowded : index_fits dim (words_by dim s e) (size_of s.index) ≡ false → edited dim s e own ≡ refused s 15 0
    edit_crowded h = room_refused (rw h refl)

    module _ (room : 2 * length (words_by dim s e) ≤ length s.file) (beside : index_fits dim (words_by dim s e) (size_of s.index) ≡ true) where
      pub edit_full : length s.journal < s.jused + 2 * length (record_by dim s e) → edited dim s e own ≡ refused s 16 0
      unfolding edited edit_within
      edit_full h =
          rw (f, beside, le-leb (2 * length (words_by dim s e)) (length s.file) room, lt-leb (s.jused + 2 * length (record_by dim s e)) (length s.journal) h) refl

      pub edit_made_lem : s.jused + 2 * length (record_by dim s e) ≤ length s.journal → edited dim s e own ≡ edit_made dim s (words_by dim s e) (record_by dim s e)
      unfolding edited edit_within
      edit_made_lem h =
          rw (f, beside, le-leb (2 * length (words_by dim s e)) (length s.file) room, le-leb (s.jused + 2 * length (record_by dim s e)) (length s.journal) h) refl

-- what is not refused had no fault
by_fine : (f : Fault?) (s : Session) (r : Outcome) → was_refused (result_by f s r).answer ≡ false → f ≡ fine
by_fine fine s r q = refl
by_fine (fault n p) s r q = absurd (false≢true (sym q))

module _ (dim : ℕ) (s : Session) where
  ---- a call comes to its edit

  text_edit : (p : ℕ) (text : List ℕ) (e : Edit) (q : Result Name Refusal) → packed text ≡ q → rename_of q p ≡ some e →
      edited dim s (name_of_text q p) (rename_fault (spots_of dim (words_of s)) (words_of s) p (text_ok q)) ≡ edited dim s e (edit_fault dim (words_of s) e)
  unfolding edit_fault
  text_edit p text e (Ok name) t h =
      let is : rename p name.first name.second ≡ e = cc in
      ap (λ named. edited dim s (rename p name.first name.second) (rename_fault (spots_of dim (words_of s)) (words_of s) p named)) (sym (pack_stored text name.first name.second t).ok)
      ∙ ap (λ x. edited dim s x (edit_fault dim (words_of s) x)) is
  text_edit p text e (Err refusal) t h = let z : ◌≡◌ {A = ℕ} 0 1 = cc in absurd (omega arith)

  pub call_edit : (c : Call) (e : Edit) → edit_of c ≡ some e → call_on dim s (words_of s) c ≡ edited dim s e (edit_fault dim (words_of s) e)
  call_edit (mark_call p d) e h = let is : mark p d ≡ e = cc in ap (λ x. edited dim s x (edit_fault dim (words_of s) x)) is
  call_edit (rename_call p text) e h = text_edit p text e (packed text) refl h
  call_edit (insert_call g p piece) e h = let is : insert g p (words piece) ≡ e = cc in ap (λ x. edited dim s x (edit_fault dim (words_of s) x)) is
  call_edit (remove_call p) e h = let is : remove p ≡ e = cc in ap (λ x. edited dim s x (edit_fault dim (words_of s) x)) is
  call_edit undo_call e h = let z : ◌≡◌ {A = ℕ} 0 1 = cc in absurd (omega arith)

  pub step_edit : (c : Call) (e : Edit) → open_fault dim s c ≡ fine → edit_of c ≡ some e → step dim s c ≡ edited dim s e (edit_fault dim (words_of s) e)
  unfolding step
  step_edit c e f h = rw f (call_edit c e h)

  pub step_made : (c : Call) (e : Edit) → edit_of c ≡ some e → Allowed dim s c e → step dim s c ≡ edit_made dim s (words_by dim s e) (record_by dim s e)
  step_made c e h a = step_edit c e a.opens h ∙ edit_made_lem dim s e (edit_fault dim (words_of s) e) a.own a.file_room a.index_room a.journal_room

  step_allowed : (c : Call) (e : Edit) → edit_of c ≡ some e → was_refused (step dim s c).answer ≡ false → Allowed dim s c e
  unfolding step edited edit_within
  step_allowed c e h q =
      let opens = by_fine (open_fault dim s c) s (call_on dim s (words_of s) c) q in
      let f = edit_fault dim (words_of s) e in
      let w = words_by dim s e in
      let r = record_by dim s e in
      let x : was_refused (edited dim s e f).answer ≡ false = ap (λ y. was_refused y.answer) (sym (step_edit c e opens h)) ∙ q in
      let p = or_else_fine f (edit_within dim s w r) (by_fine (or_else f (edit_within dim s w r)) s (edit_made dim s w r) x) in
      let t = or_else_fine (unless (room_for dim (length s.file) (size_of s.index) w) 15) (unless (leb (s.jused + 2 * length r) (length s.journal)) 16) p.1 in
      let both = (and-eq-true_iff (index_fits dim w (size_of s.index)) (leb (2 * length w) (length s.file))).0
      (unless_fine (room_for dim (length s.file) (size_of s.index) w) 15 t.0) in
      record {
        opens = opens;
        own = p.0;
        file_room = leb-true _ _ both.1;
        index_room = both.0;
        journal_room = leb-true _ _ (unless_fine (leb (s.jused + 2 * length r) (length s.journal)) 16 t.1);
      }

pub edits_made : EditsMade
unfolding edit_made
edits_made dim s c e h a = ap (λ r. r.answer) (step_made dim s c e h a)

pub made_exactly : MadeExactly
unfolding edit_made
made_exactly dim s c e h = (step_allowed dim s c e h, λ a. ap (λ r. was_refused r.answer) (step_made dim s c e h a))
