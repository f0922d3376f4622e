-- What one call does to a session and its book: the used words stay those that the listed edits lead to, and the used
-- journal stays their records.
use Prim.Native.Nat.{ℕ, ◌+◌, ◌-◌, ◌*◌, ◌%◌, ◌≤◌}
use mathlib.Core.Path.{◌≡◌, refl, sym, ap, ◌∙◌, subst}
use mathlib.Core.Bool.{true, false, and-eq-true_iff}
use mathlib.Core.List.{List, [], ◌∷◌, ◌++◌}
use native.Mathlib.Omega.{arith}
use lib.ListN.{length}
use lib.Dec.{eqb, leb}
use borrow.Author.Tests.{leb-true, eq-eqb}
use Rattle.std.specs.Prelude.{Err, Ok, Result}
use Rattle.refusals.specs.declared.Refusal.{Refusal}
use Rattle.words.specs.Words.{words}
use Rattle.words.proofs.Laws.{words_below}
use Rattle.names.specs.Names.{packed}
use Rattle.names.specs.declared.Name.{Name}
use Rattle.limits.specs.Limits.{dim_ok, size_ok}
use Rattle.files.specs.Spots.{spots_of}
use Rattle.grammar.proofs.Forest.{flat}
use Rattle.edits.specs.Edits.{Edit, mark, insert, remove, apply}
use Rattle.edits.specs.Allowed.{Fault?, fine, fault, or_else, rename_fault, edit_fault}
use Rattle.edits.specs.Records.{record_of, record_words}
use Rattle.edits.specs.Calls.{Session, size_of, index_ok, index_fits, afresh, Call, mark_call, rename_call, insert_call, remove_call, undo_call, words_of, ends_in_marker, session_ok, session_fault, Outcome, result_by, edit_made, room_for, edit_within, edited, undone, name_of_text, text_ok, call_on}
use Rattle.edits.specs.Book.{Run, noted, noting}
use Rattle.edits.specs.Demand.{PieceBytes}
use Rattle.edits.proofs.Accepted.{Accepted, Carried, Sound}
use Rattle.edits.proofs.Journal.{record_below}
use Rattle.edits.proofs.Buffers.{Holds, holds_ok, holds_stored, holds_pushed, marker_ends}
use Rattle.edits.proofs.Replay.{Replay, one_more, replay_fits, replay_accepted, replay_sound}
use Rattle.edits.proofs.Indexed.{index_size, index_ok_lem}
use Rattle.edits.proofs.Hypotheses.{Hypotheses}
use Rattle.edits.proofs.Faults.{or_else_fine, unless_fine}
use Rattle.edits.proofs.Tested.{session_ok_lem}
use Rattle.edits.proofs.Refusals.{not_named}

-- the listed edits made one after another from the original's used words, within the file's buffer
abbrev pub Replayed : ℕ → Session → List Edit → List ℕ → List ℕ → Type 0
Replayed dim s = Replay dim (words_of s) (length s.file) (size_of s.index)

-- a session at a run's start
pub record Begun (dim : ℕ) (s : Session) : Type 0 where
  pub dimension : dim_ok dim ≡ true
  pub file_ok : size_ok (length s.file) ≡ true
  pub journal_ok : size_ok (length s.journal) ≡ true
  pub file : Holds (length s.file) s.file s.used (words_of s)
  pub journal : Holds (length s.journal) s.journal s.jused []
  pub tree : Accepted dim (words_of s)
  pub index : s.index ≡ afresh dim (words_of s) (size_of s.index)
  pub index_fits_lem : index_fits dim (words_of s) (size_of s.index) ≡ true

-- a session and its book's list after some calls of a run that started with s₀
pub record Kept (dim : ℕ) (s₀ s : Session) (es : List Edit) : Type 0 where
  pub ws : List ℕ
  pub js : List ℕ
  pub replay : Replayed dim s₀ es ws js
  pub file : Holds (length s₀.file) s.file s.used ws
  pub journal : Holds (length s₀.journal) s.journal s.jused js
  pub index : s.index ≡ afresh dim ws (size_of s₀.index)

abbrev pub KeptRun : ℕ → Session → Run → Type 0
KeptRun dim s₀ r = Kept dim s₀ r.session r.book

module _ (dim : ℕ) (hyp : Hypotheses dim) (s₀ : Session) (B : Begun dim s₀) where
  -- the law of one edit, at each file of a run
  pub room : 2 * length (words_of s₀) ≤ length s₀.file
  room = let u = B.file.used in let w = B.file.within in omega arith

  pub limit : length s₀.file ≤ 1048576
  limit = leb-true (length s₀.file) 1048576 ((and-eq-true_iff (eqb (length s₀.file % 2) 0) (leb (length s₀.file) 1048576)).0 B.file_ok).1

  pub sound_at : (es : List Edit) (ws js : List ℕ) (e : Edit) → Replayed dim s₀ es ws js → edit_fault dim ws e ≡ fine → Carried e → Sound dim ws e
  sound_at = replay_sound dim (words_of s₀) (length s₀.file) (size_of s₀.index) hyp.sound B.tree room B.index_fits_lem limit

  pub accepted_at : (es : List Edit) (ws js : List ℕ) → Replayed dim s₀ es ws js → Accepted dim ws
  accepted_at = replay_accepted dim (words_of s₀) (length s₀.file) (size_of s₀.index) hyp.sound B.tree room B.index_fits_lem limit

  pub fits_at : (es : List Edit) (ws js : List ℕ) → Replayed dim s₀ es ws js → index_fits dim ws (size_of s₀.index) ≡ true
  fits_at = replay_fits dim (words_of s₀) (length s₀.file) (size_of s₀.index) hyp.sound B.tree room B.index_fits_lem limit

  -- an index's buffer keeps its length
  pub same_size : (s : Session) (es : List Edit) (ws js : List ℕ) → Replayed dim s₀ es ws js → s.index ≡ afresh dim ws (size_of s₀.index) →
      size_of s.index ≡ size_of s₀.index
  same_size s es ws js r i = ap size_of i ∙ index_size dim ws (size_of s₀.index) (fits_at es ws js r)

  -- what a refusal leaves is kept, so what is made has to be shown
  pub after_by : (s : Session) (es : List Edit) (c : Call) (f : Fault?) (r : Outcome) → Kept dim s₀ s es
      → (f ≡ fine → KeptRun dim s₀ (noting es c r)) → KeptRun dim s₀ (noting es c (result_by f s r))
  after_by s es c fine r K h = h refl
  after_by s es c (fault n p) r K h = K

  ---- the edits

  edited_at : (s : Session) (e : Edit) (own : Fault?) (ws : List ℕ) → words_of s ≡ ws
      → edited dim s e own
      ≡ result_by (or_else own (edit_within dim s (apply dim ws e) (record_words (record_of dim ws e)))) s (edit_made dim s (apply dim ws e) (record_words (record_of dim ws e)))
  unfolding edited
  edited_at s e own ws q = rw q refl

  -- an edit made joins the list's end
  kept_made : (s : Session) (es : List Edit) (e : Edit) (K : Kept dim s₀ s es) → edit_fault dim K.ws e ≡ fine → Carried e
      → edit_within dim s (apply dim K.ws e) (record_words (record_of dim K.ws e)) ≡ fine
      → Kept dim s₀ (edit_made dim s (apply dim K.ws e) (record_words (record_of dim K.ws e))).after (es ++ (e ∷ []))
  unfolding edit_made edit_within
  kept_made s es e K allowed carried fits =
      let ws = K.ws in
      let js = K.js in
      let S = sound_at es K.ws K.js e K.replay allowed carried in
      let x = apply dim K.ws e in
      let r = record_words (record_of dim K.ws e) in
      let both = or_else_fine _ _ fits in
      let long = K.file.whole in
      let jlong = K.journal.whole in
      let rooms = (and-eq-true_iff (index_fits dim x (size_of s.index)) (leb (2 * length x) (length s.file))).0 (unless_fine (room_for dim (length s.file) (size_of s.index) x) 15 both.0) in
      let f : 2 * length (apply dim K.ws e) ≤ length s.file = leb-true _ _ rooms.1 in
      let size = same_size s es K.ws K.js K.replay K.index in
      let i : index_fits dim (apply dim K.ws e) (size_of s₀.index) ≡ true = rw size at rooms.0 in
      let j : s.jused + 2 * length (record_words (record_of dim K.ws e)) ≤ length s.journal = leb-true _ _ (unless_fine _ 16 both.1) in
      let room' : 2 * length (apply dim K.ws e) ≤ length s₀.file = omega arith in
      let jroom : s.jused + 2 * length (record_words (record_of dim K.ws e)) ≤ length s₀.journal = omega arith in
      record {
        ws = x;
        js = js ++ r;
        replay = one_more es ws js e K.replay allowed carried room' i;
        file = holds_stored K.file x S.kept.below room';
        journal = holds_pushed K.journal r (record_below (record_of dim K.ws e) S.small) jroom;
        index = ap (afresh dim x) size;
      }

  kept_edit : (s : Session) (es : List Edit) (c : Call) (e : Edit) (own : Fault?) (K : Kept dim s₀ s es)
      → (own ≡ fine → (edit_fault dim K.ws e ≡ fine) × Carried e) → noted es c false ≡ es ++ (e ∷ [])
      → KeptRun dim s₀ (noting es c (edited dim s e own))
  unfolding edit_made
  kept_edit s es c e own K allowed q =
      let x = apply dim K.ws e in
      let r = record_words (record_of dim K.ws e) in
      subst (λ x. KeptRun dim s₀ (noting es c x)) (sym (edited_at s e own K.ws K.file.words))
      (after_by s es c (or_else own (edit_within dim s x r)) (edit_made dim s x r) K
      (λ f. let p = or_else_fine own (edit_within dim s x r) f in
      let a = allowed p.0 in
      subst (λ l. Kept dim s₀ (edit_made dim s x r).after l) (sym q) (kept_made s es e K a.0 a.1 p.1)))

  -- a text that packs to two words is a name, so its rename is allowed where the call is
  kept_text : (p : ℕ) (text ws : List ℕ) (q : Result Name Refusal) → packed text ≡ q
      → rename_fault (spots_of dim ws) ws p (text_ok q) ≡ fine → (edit_fault dim ws (name_of_text q p) ≡ fine) × Carried (name_of_text q p)
  unfolding edit_fault
  kept_text p text ws (Ok name) e f =
      let o = hyp.packed_ok text name.first name.second e in
      (ap (rename_fault (spots_of dim ws) ws p) o.0 ∙ f, (o.1, o.2))
  kept_text p text ws (Err refusal) e f = absurd (not_named (spots_of dim ws) ws p f)

  pub kept_call : (s : Session) (es : List Edit) (c : Call) → PieceBytes c → (K : Kept dim s₀ s es) → KeptRun dim s₀ (noting es undo_call (undone dim s))
      → KeptRun dim s₀ (noting es c (call_on dim s (words_of s) c))
  kept_call s es (mark_call p deleted) b K u =
      kept_edit s es (mark_call p deleted) (mark p deleted) (edit_fault dim (words_of s) (mark p deleted)) K
      (λ f. (ap (λ l. edit_fault dim l (mark p deleted)) (sym K.file.words) ∙ f, tt)) refl
  kept_call s es (rename_call p text) b K u =
      let q = packed text in
      kept_edit s es (rename_call p text) (name_of_text q p) (rename_fault (spots_of dim (words_of s)) (words_of s) p (text_ok q)) K
      (λ f. kept_text p text K.ws q refl (ap (λ l. rename_fault (spots_of dim l) l p (text_ok q)) (sym K.file.words) ∙ f)) refl
  kept_call s es (insert_call h p piece) b K u =
      let x = words piece in
      kept_edit s es (insert_call h p piece) (insert h p x) (edit_fault dim (words_of s) (insert h p x)) K
      (λ f. (ap (λ l. edit_fault dim l (insert h p x)) (sym K.file.words) ∙ f, words_below piece b)) refl
  kept_call s es (remove_call p) b K u =
      kept_edit s es (remove_call p) (remove p) (edit_fault dim (words_of s) (remove p)) K
      (λ f. (ap (λ l. edit_fault dim l (remove p)) (sym K.file.words) ∙ f, tt)) refl
  kept_call s es undo_call b K u = u

  ---- the dimension, the buffers, the used lengths and the file stay good

  kept_session : (s : Session) (es : List Edit) → Kept dim s₀ s es → session_ok dim s ≡ true
  kept_session s es K =
      let A = accepted_at es K.ws K.js K.replay in
      let ends : ends_in_marker (words_of s) ≡ true = ap ends_in_marker (K.file.words ∙ A.words) ∙ marker_ends (flat A.tree) in
      session_ok_lem (record {
        index = ap index_ok K.index ∙ index_ok_lem dim K.ws (size_of s₀.index) (fits_at es K.ws K.js K.replay);
        dimension = B.dimension;
        file = holds_ok K.file s₀.file refl B.file_ok;
        journal = holds_ok K.journal s₀.journal refl B.journal_ok;
        ends = ends;
      })

  pub kept_ready : (s : Session) (es : List Edit) → Kept dim s₀ s es → session_fault dim s ≡ fine
  unfolding session_fault
  kept_ready s es K =
      let v = hyp.tree_judged K.ws (accepted_at es K.ws K.js K.replay) in
      rw (kept_session s es K, K.file.words, v.3, eq-eqb (length K.ws - 1) (length K.ws - 1) refl) refl
