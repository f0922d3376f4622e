-- The causes of a refusal, taken one after another as the definitions do: the first that holds is the one answered.
use Prim.Native.Nat.{ℕ, ◌+◌, ◌*◌, ◌≤◌}
use mathlib.Core.Path.{◌≡◌, refl, sym, ap, ◌∙◌}
use mathlib.Core.Logic.{inl, inr}
use mathlib.Core.Bool.{Bool, true, false, cond, not, ◌&&◌}
use mathlib.Core.List.{List, [], ◌∷◌}
use mathlib.Core.Option.{Option, none, some}
use native.Mathlib.Omega.{arith}
use lib.ListN.{length}
use lib.Dec.{eqb, leb}
use borrow.Author.Tests.{le-leb, lt-leb, leb-true, leb-false, eqb-true, eqb-false, eq-eqb, ne_eqb}
use Rattle.refusals.specs.Refusals.{refused_with}
use Rattle.refusals.proofs.Laws.{number_is, place_is, refusal_is}
use Rattle.headers.specs.Header.{extent_at}
use Rattle.files.specs.Spots.{spots_of}
use Rattle.edits.specs.Edits.{Edit, insert, down_to}
use Rattle.edits.specs.Allowed.{Fault?, fine, fault, or_else, unless, gap_ok, piece_fault, room_fault, insert_fault, edit_fault}
use Rattle.edits.specs.Records.{Rec, Newest, last_record, reversible}
use Rattle.edits.specs.Calls.{Session, size_of, index_fits, room_for, Call, undo_call, words_of, journal_of, session_fault, open_fault, words_by, record_by, result_by, edit_made, edit_within, edited, undo_made, words_back, undo_by, undone, call_on, step}
use Rattle.edits.specs.Made.{edit_of}
use Rattle.edits.specs.Causes as causes
use Rattle.edits.specs.Causes.{EditCause, EditRefused, Outgrown, InsertCause, InsertRefused, UndoCause, UndoRefused}
use Rattle.edits.proofs.Allowed.{no_room, edit_own, edit_room, edit_crowded, edit_full, call_edit, step_edit}

-- the number and the place of a refusal
same : {A : Type 0} {m q n p : ℕ} → refused_with {A = A} m q ≡ refused_with n p → fault m q ≡ fault n p
same e = ap (λ r. fault r.number r.place) (refusal_is e)

number : {A : Type 0} {m q n p : ℕ} → refused_with {A = A} m q ≡ refused_with n p → n ≡ m
number e = sym (number_is e)

place : {A : Type 0} {m q n p : ℕ} → refused_with {A = A} m q ≡ refused_with n p → p ≡ q
place e = sym (place_is e)

---- an edit

module _ (dim : ℕ) (s : Session) (c : Call) (e : Edit) (n p : ℕ) (is : edit_of c ≡ some e) where
  cause_edit : EditCause dim s c e n p → (step dim s c).answer ≡ refused_with n p
  unfolding step
  cause_edit (causes.opening o) = rw o refl
  cause_edit (causes.own o k) = ap (λ r. r.answer) (step_edit dim s c e o is ∙ edit_own dim s e (edit_fault dim (words_of s) e) n p k)
  cause_edit (causes.file_room o k h a b) =
      ap (λ r. r.answer) (step_edit dim s c e o is ∙ edit_room dim s e (edit_fault dim (words_of s) e) k h) ∙ rw (a, b) refl
  cause_edit (causes.index_room o k h a b) =
      ap (λ r. r.answer) (step_edit dim s c e o is ∙ edit_crowded dim s e (edit_fault dim (words_of s) e) k h) ∙ rw (a, b) refl
  cause_edit (causes.journal_room o k h i l a b) =
      ap (λ r. r.answer) (step_edit dim s c e o is ∙ edit_full dim s e (edit_fault dim (words_of s) e) k h i l) ∙ rw (a, b) refl

  edit_cause : (step dim s c).answer ≡ refused_with n p → EditCause dim s c e n p
  unfolding step edited edit_within edit_made
  edit_cause = opens (open_fault dim s c) refl
    where
      full : (b : Bool) → leb (s.jused + 2 * length (record_by dim s e)) (length s.journal) ≡ b → open_fault dim s c ≡ fine → edit_fault dim (words_of s) e ≡ fine →
          2 * length (words_by dim s e) ≤ length s.file → index_fits dim (words_by dim s e) (size_of s.index) ≡ true → (result_by (unless b 16) s (edit_made dim s (words_by dim s e) (record_by dim s e))).answer ≡ refused_with n p → EditCause dim s c e n p
      full true t o k h i q = let z : ◌≡◌ {A = ℕ} 0 1 = cc in absurd (omega arith)
      full false t o k h i q = causes.journal_room o k h i (leb-false _ _ t) (number q) (place q)

      room : (b : Bool) → leb (2 * length (words_by dim s e)) (length s.file) ≡ b → index_fits dim (words_by dim s e) (size_of s.index) ≡ true →
          open_fault dim s c ≡ fine → edit_fault dim (words_of s) e ≡ fine → (result_by (or_else (unless b 15) (unless (leb (s.jused + 2 * length (record_by dim s e)) (length s.journal)) 16)) s (edit_made dim s (words_by dim s e) (record_by dim s e))).answer ≡ refused_with n p →
          EditCause dim s c e n p
      room true t i o k q = full (leb (s.jused + 2 * length (record_by dim s e)) (length s.journal)) refl o k (leb-true _ _ t) i q
      room false t i o k q = causes.file_room o k (leb-false _ _ t) (number q) (place q)

      beside : (b : Bool) → index_fits dim (words_by dim s e) (size_of s.index) ≡ b → open_fault dim s c ≡ fine → edit_fault dim (words_of s) e ≡ fine →
          (result_by (or_else (unless (b && leb (2 * length (words_by dim s e)) (length s.file)) 15) (unless (leb (s.jused + 2 * length (record_by dim s e)) (length s.journal)) 16)) s
          (edit_made dim s (words_by dim s e) (record_by dim s e))).answer ≡ refused_with n p → EditCause dim s c e n p
      beside true i o k q = room (leb (2 * length (words_by dim s e)) (length s.file)) refl i o k q
      beside false i o k q = causes.index_room o k i (number q) (place q)

      owns : (f : Fault?) → edit_fault dim (words_of s) e ≡ f → open_fault dim s c ≡ fine → (edited dim s e f).answer ≡ refused_with n p → EditCause dim s c e n p
      owns (fault m r) k o q = causes.own o (k ∙ same q)
      owns fine k o q = beside (index_fits dim (words_by dim s e) (size_of s.index)) refl o k q

      opens : (f : Fault?) → open_fault dim s c ≡ f → (result_by f s (call_on dim s (words_of s) c)).answer ≡ refused_with n p → EditCause dim s c e n p
      opens (fault m r) o q = causes.opening (o ∙ same q)
      opens fine o q = owns (edit_fault dim (words_of s) e) refl o (ap (λ r. r.answer) (sym (call_edit dim s c e is)) ∙ q)

pub edit_refused : EditRefused
edit_refused dim s c e n p is = (edit_cause dim s c e n p is, cause_edit dim s c e n p is)

---- an insert's own

module _ (n : ℕ) (ws : List ℕ) where
  outgrown : (qs : List ℕ) (m p : ℕ) → room_fault n ws qs ≡ fault m p → (m ≡ 8) × Outgrown n ws qs p
  outgrown [] m p e = let z : ◌≡◌ {A = ℕ} 0 1 = cc in absurd (omega arith)
  outgrown (q ∷ qs) m p e = go (leb (extent_at ws q + n) 65535) refl (outgrown qs m p) e
    where
      go : (b : Bool) → leb (extent_at ws q + n) 65535 ≡ b → (room_fault n ws qs ≡ fault m p → (m ≡ 8) × Outgrown n ws qs p) →
          cond b (room_fault n ws qs) (fault 8 q) ≡ fault m p → (m ≡ 8) × Outgrown n ws (q ∷ qs) p
      go true t rest e = let r = rest e in (r.0, inr (leb-true _ _ t, r.1))
      go false t rest e = let z : 8 ≡ m = cc in let y : q ≡ p = cc in (sym z, inl (leb-false _ _ t, sym y))

  grown_fault : (qs : List ℕ) (p : ℕ) → Outgrown n ws qs p → room_fault n ws qs ≡ fault 8 p
  grown_fault [] p x = absurd x
  grown_fault (q ∷ qs) p (inl x) = rw (lt-leb (extent_at ws q + n) 65535 x.0, x.1) refl
  grown_fault (q ∷ qs) p (inr x) = rw (le-leb (extent_at ws q + n) 65535 x.0) (grown_fault qs p x.1)

module _ (dim : ℕ) (ws : List ℕ) (h : Option ℕ) (at : ℕ) (x : List ℕ) (n p : ℕ) where
  cause_insert : InsertCause dim ws h at x n p → edit_fault dim ws (insert h at x) ≡ fault n p
  unfolding edit_fault insert_fault
  cause_insert (causes.no_such g a b) = rw (g, a, b) refl
  cause_insert (causes.piece g k) = rw (g, k) refl
  cause_insert (causes.total g k o a) = rw (g, k, a) (grown_fault (length x) ws (down_to (spots_of dim ws) h) p o)

  insert_cause : edit_fault dim ws (insert h at x) ≡ fault n p → InsertCause dim ws h at x n p
  unfolding edit_fault insert_fault
  insert_cause = gaps (gap_ok (spots_of dim ws) ws h at) refl
    where
      pieces : (f : Fault?) → piece_fault dim (spots_of dim ws) ws h x ≡ f → gap_ok (spots_of dim ws) ws h at ≡ true →
          or_else f (room_fault (length x) ws (down_to (spots_of dim ws) h)) ≡ fault n p → InsertCause dim ws h at x n p
      pieces (fault m q) k g e = causes.piece g (k ∙ e)
      pieces fine k g e = let o = outgrown (length x) ws (down_to (spots_of dim ws) h) n p e in causes.total g k o.1 o.0

      gaps : (b : Bool) → gap_ok (spots_of dim ws) ws h at ≡ b → or_else (unless b 13) (or_else (piece_fault dim (spots_of dim ws) ws h x) (room_fault (length x) ws (down_to (spots_of dim ws) h))) ≡ fault n p →
          InsertCause dim ws h at x n p
      gaps true g e = pieces (piece_fault dim (spots_of dim ws) ws h x) refl g e
      gaps false g e = causes.no_such g (let z : 13 ≡ n = cc in sym z) (let z : 0 ≡ p = cc in sym z)

pub insert_refused : InsertRefused
insert_refused dim ws h at x n p = (insert_cause dim ws h at x n p, cause_insert dim ws h at x n p)

---- an undo

module _ (dim : ℕ) (s : Session) (n p : ℕ) where
  cause_undo : UndoCause dim s n p → (step dim s undo_call).answer ≡ refused_with n p
  unfolding step open_fault undone
  cause_undo (causes.opening o) = rw o refl
  cause_undo (causes.nothing o u a b) = rw (o, eq-eqb s.jused 0 u, a, b) refl
  cause_undo (causes.ill_formed o u l a b) = rw (o, ne_eqb s.jused 0 u, l, a, b) refl
  cause_undo (causes.not_allowed o u r js l v a b) = rw (o, ne_eqb s.jused 0 u, l, v, a, b) refl
  cause_undo (causes.room o u r js l v h a b) =
      let full : room_for dim (length s.file) (size_of s.index) (words_back dim (words_of s) r) ≡ false =
      no_room (index_fits dim (words_back dim (words_of s) r) (size_of s.index)) (leb (2 * length (words_back dim (words_of s) r)) (length s.file))
      (lt-leb (2 * length (words_back dim (words_of s) r)) (length s.file) h) in
      rw (o, ne_eqb s.jused 0 u, l, v, full, a, b) refl
  cause_undo (causes.index_room o u r js l v h a b) = rw (o, ne_eqb s.jused 0 u, l, v, h, a, b) refl

  undo_cause : (step dim s undo_call).answer ≡ refused_with n p → UndoCause dim s n p
  unfolding step open_fault undone undo_made
  undo_cause = opens (session_fault dim s) refl
    where
      rooms : (r : Rec) (js : List ℕ) (b : Bool) → leb (2 * length (words_back dim (words_of s) r)) (length s.file) ≡ b →
          reversible dim (words_of s) r ≡ true → last_record (journal_of s) ≡ some (r, js) → (s.jused ≡ 0 → ⊥) → session_fault dim s ≡ fine →
          (result_by (unless b 15) s (undo_made dim s (words_back dim (words_of s) r) (2 * length js))).answer ≡ refused_with n p → UndoCause dim s n p
      rooms r js true t v l u o q = let z : ◌≡◌ {A = ℕ} 0 1 = cc in absurd (omega arith)
      rooms r js false t v l u o q = causes.room o u r js l v (leb-false _ _ t) (number q) (place q)

      beside : (r : Rec) (js : List ℕ) (b : Bool) → index_fits dim (words_back dim (words_of s) r) (size_of s.index) ≡ b →
          reversible dim (words_of s) r ≡ true → last_record (journal_of s) ≡ some (r, js) → (s.jused ≡ 0 → ⊥) → session_fault dim s ≡ fine →
          (result_by (unless (b && leb (2 * length (words_back dim (words_of s) r)) (length s.file)) 15) s
          (undo_made dim s (words_back dim (words_of s) r) (2 * length js))).answer ≡ refused_with n p → UndoCause dim s n p
      beside r js true i v l u o q = rooms r js (leb (2 * length (words_back dim (words_of s) r)) (length s.file)) refl v l u o q
      beside r js false i v l u o q = causes.index_room o u r js l v i (number q) (place q)

      allows : (r : Rec) (js : List ℕ) (b : Bool) → reversible dim (words_of s) r ≡ b → last_record (journal_of s) ≡ some (r, js) → (s.jused ≡ 0 → ⊥) → session_fault dim s ≡ fine →
          (result_by (or_else (unless b 19) (unless (room_for dim (length s.file) (size_of s.index) (words_back dim (words_of s) r)) 15)) s
          (undo_made dim s (words_back dim (words_of s) r) (2 * length js))).answer ≡ refused_with n p → UndoCause dim s n p
      allows r js true v l u o q = beside r js (index_fits dim (words_back dim (words_of s) r) (size_of s.index)) refl v l u o q
      allows r js false v l u o q = causes.not_allowed o u r js l v (number q) (place q)

      lasts : (l : Newest) → last_record (journal_of s) ≡ l → (s.jused ≡ 0 → ⊥) → session_fault dim s ≡ fine → (undo_by dim s (words_of s) l).answer ≡ refused_with n p → UndoCause dim s n p
      lasts none l u o q = causes.ill_formed o u l (number q) (place q)
      lasts (some (r, js)) l u o q = allows r js (reversible dim (words_of s) r) refl l u o q

      used : (b : Bool) → eqb s.jused 0 ≡ b → session_fault dim s ≡ fine →
          (result_by (unless (not b) 17) s (undo_by dim s (words_of s) (last_record (journal_of s)))).answer ≡ refused_with n p → UndoCause dim s n p
      used true t o q = causes.nothing o (eqb-true s.jused 0 t) (number q) (place q)
      used false t o q = lasts (last_record (journal_of s)) refl (eqb-false s.jused 0 t) o q

      opens : (f : Fault?) → session_fault dim s ≡ f → (result_by f s (undone dim s)).answer ≡ refused_with n p → UndoCause dim s n p
      opens (fault m r) o q = causes.opening (o ∙ same q)
      opens fine o q = used (eqb s.jused 0) refl o q

pub undo_refused : UndoRefused
undo_refused dim s n p = (undo_cause dim s n p, cause_undo dim s n p)
