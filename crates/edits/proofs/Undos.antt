-- What an undo does, by what the book's list holds: refused with 17 where it is empty, else the last edit goes. So a run
-- keeps what a call keeps, and undos take back the whole list.
use Prim.Native.Nat.{ℕ, zero, suc, ◌*◌, ◌≤◌}
use mathlib.Core.Path.{◌≡◌, refl, sym, ap, ◌∙◌, subst}
use mathlib.Core.Logic.{◌↔◌}
use mathlib.Core.Bool.{true, false, not, false≢true, and-eq-true_iff}
use mathlib.Core.List.{List, [], ◌∷◌, ◌++◌}
use native.Mathlib.Omega.{arith}
use lib.ListN.{length, length-append}
use lib.Dec.{leb}
use borrow.Author.Tests.{le-leb, ne_eqb}
use Rattle.refusals.specs.Refusals.{refused_with}
use Rattle.edits.specs.Edits.{Edit, apply}
use Rattle.edits.specs.Allowed.{fine}
use Rattle.edits.specs.Records.{record_of, record_words}
use Rattle.edits.specs.Calls.{Session, size_of, index_fits, afresh, room_for, Call, undo_call, session_fault, open_fault, journal_of, words_of, Outcome, refused, undo_made, undone, call_on, step}
use Rattle.edits.specs.Book.{Run, ran, struck, noted, noting, was_refused, undos}
use Rattle.edits.specs.Demand.{PieceBytes, PiecesBytes, none_refused}
use Rattle.edits.proofs.Accepted.{Sound}
use Rattle.edits.proofs.Journal.{reads, record_long}
use Rattle.edits.proofs.Buffers.{Holds, holds_stored, holds_front}
use Rattle.edits.proofs.Replay.{no_edit, one_more, replay_room, struck_more, undos_more, more_not_nil}
use Rattle.edits.proofs.Hypotheses.{Hypotheses}
use Rattle.edits.proofs.Steps.{Replayed, Begun, Kept, KeptRun, room, limit, sound_at, accepted_at, fits_at, same_size, after_by, kept_call, kept_ready}

---- an undo, by the journal

-- an undo that is not refused before it looks at the journal
pub step_undo : (dim : ℕ) (s : Session) → session_fault dim s ≡ fine → step dim s undo_call ≡ undone dim s
unfolding step open_fault
step_undo dim s e = rw e refl

-- nothing to take off
undone_nothing : (dim : ℕ) (s : Session) → s.jused ≡ 0 → undone dim s ≡ refused s 17 0
unfolding undone
undone_nothing dim s e = rw e refl

-- the last record taken off, and its edit turned back
pub undone_last : (dim : ℕ) (s : Session) (ws js : List ℕ) (e : Edit) → words_of s ≡ apply dim ws e
    → journal_of s ≡ js ++ record_words (record_of dim ws e) → Sound dim ws e
    → (s.jused ≡ 0 → ⊥) → room_for dim (length s.file) (size_of s.index) ws ≡ true → undone dim s ≡ undo_made dim s ws (2 * length js)
unfolding undone
undone_last dim s ws js e w j S some_used l =
    rw (ne_eqb s.jused 0 some_used, w, j, reads js (record_of dim ws e) S.small, S.back, S.same, l) refl

-- undos carry no piece
pub undos_bytes : (es : List Edit) → PiecesBytes (undos es)
undos_bytes [] = tt
undos_bytes (e ∷ es) = (tt, undos_bytes es)

-- an undo that is not refused strikes off the last edit
noting_undo : (es es₀ : List Edit) (e : Edit) (r : Outcome) → es ≡ es₀ ++ (e ∷ []) → was_refused r.answer ≡ false
    → noting es undo_call r ≡ record { session = r.after; book = es₀ }
noting_undo es es₀ e r q m =
    ap (λ b. record { session = r.after; book = noted es undo_call b }) m
    ∙ ap (λ l. record { session = r.after; book = l }) (ap struck q ∙ struck_more es₀ e)

module _ (dim : ℕ) (hyp : Hypotheses dim) (s₀ : Session) (B : Begun dim s₀) where
  pub data UndoStep (s : Session) (es : List Edit) : Type 0 where
    nothing : es ≡ [] → step dim s undo_call ≡ refused s 17 0 → UndoStep s es
    taken : (es₀ : List Edit) (e : Edit) (r : Outcome) → es ≡ es₀ ++ (e ∷ []) → step dim s undo_call ≡ r → was_refused r.answer ≡ false →
        Kept dim s₀ r.after es₀ → UndoStep s es

  undo_by_lem : (s : Session) (es : List Edit) (ws js : List ℕ) → step dim s undo_call ≡ undone dim s → Replayed dim s₀ es ws js
      → Holds (length s₀.file) s.file s.used ws → Holds (length s₀.journal) s.journal s.jused js → s.index ≡ afresh dim ws (size_of s₀.index) → UndoStep s es
  unfolding undo_made
  undo_by_lem s es ws js u no_edit F J I = nothing refl (u ∙ undone_nothing dim s J.used)
  undo_by_lem s es ws js u (one_more es₀ ws₀ js₀ e r f c l i) F J I =
      let rec = record_words (record_of dim ws₀ e) in
      let S = sound_at dim hyp s₀ B es₀ ws₀ js₀ e r f c in
      let A = accepted_at dim hyp s₀ B es₀ ws₀ js₀ r in
      let fits = replay_room dim (words_of s₀) (length s₀.file) (size_of s₀.index) hyp.sound B.tree (room dim hyp s₀ B) B.index_fits_lem (limit dim hyp s₀ B) es₀ ws₀ js₀ r in
      let whole = F.whole in
      let size = same_size dim hyp s₀ B s es ws js (one_more es₀ ws₀ js₀ e r f c l i) I in
      let file_room : leb (2 * length ws₀) (length s.file) ≡ true = le-leb (2 * length ws₀) (length s.file) (omega arith) in
      let index_room : index_fits dim ws₀ (size_of s.index) ≡ true = rw size (fits_at dim hyp s₀ B es₀ ws₀ js₀ r) in
      let long = J.used in
      let more = length-append js₀ (record_words (record_of dim ws₀ e)) in
      let six = record_long (record_of dim ws₀ e) in
      taken es₀ e (undo_made dim s ws₀ (2 * length js₀)) refl
      (u ∙ undone_last dim s ws₀ js₀ e F.words J.words S (λ z. omega arith) ((and-eq-true_iff _ _).1 (index_room, file_room))) refl
      (record {
        ws = ws₀;
        js = js₀;
        replay = r;
        file = holds_stored F ws₀ A.below fits;
        journal = holds_front (length s₀.journal) s.journal s.jused js₀ rec J;
        index = ap (afresh dim ws₀) size;
      })

  pub undo_step : (s : Session) (es : List Edit) → Kept dim s₀ s es → UndoStep s es
  undo_step s es K = undo_by_lem s es K.ws K.js (step_undo dim s (kept_ready dim hyp s₀ B s es K)) K.replay K.file K.journal K.index

  ---- every call, and every list of calls

  kept_undo : (s : Session) (es : List Edit) → Kept dim s₀ s es → KeptRun dim s₀ (noting es undo_call (step dim s undo_call))
  kept_undo s es K = go (undo_step s es K)
    where
      go : UndoStep s es → KeptRun dim s₀ (noting es undo_call (step dim s undo_call))
      go (nothing q u) = subst (λ r. KeptRun dim s₀ (noting es undo_call r)) (sym u) K
      go (taken es₀ e r q u m K₀) =
          subst (λ x. KeptRun dim s₀ (noting es undo_call x)) (sym u) (subst (KeptRun dim s₀) (sym (noting_undo es es₀ e r q m)) K₀)

  kept_step : (s : Session) (es : List Edit) (c : Call) → PieceBytes c → Kept dim s₀ s es → KeptRun dim s₀ (noting es c (step dim s c))
  unfolding step
  kept_step s es c b K =
      let ready = kept_ready dim hyp s₀ B s es K in
      let u = subst (λ r. KeptRun dim s₀ (noting es undo_call r)) (step_undo dim s ready) (kept_undo s es K) in
      after_by dim hyp s₀ B s es c (open_fault dim s c) (call_on dim s (words_of s) c) K (λ f. kept_call dim hyp s₀ B s es c b K u)

  pub kept_run : (cs : List Call) (r : Run) → PiecesBytes cs → KeptRun dim s₀ r → KeptRun dim s₀ (ran dim r cs)
  kept_run [] r b K = K
  kept_run (c ∷ cs) r b K = kept_run cs (noting r.book c (step dim r.session c)) b.1 (kept_step r.session r.book c b.0 K)

  ---- the undo's refusal, and as many undos as the list is long

  pub undo_refused : (s : Session) (es : List Edit) → Kept dim s₀ s es → was_refused (step dim s undo_call).answer ≡ true ↔ es ≡ []
  undo_refused s es K = go (undo_step s es K)
    where
      go : UndoStep s es → was_refused (step dim s undo_call).answer ≡ true ↔ es ≡ []
      go (nothing q u) = ((λ h. q), (λ h. ap (λ r. was_refused r.answer) u))
      go (taken es₀ e r q u m K₀) =
          ((λ h. absurd (false≢true (sym m ∙ sym (ap (λ x. was_refused x.answer) u) ∙ h))), (λ h. absurd (more_not_nil es₀ e (sym q ∙ h))))

  pub undo_nothing : (s : Session) (es : List Edit) → Kept dim s₀ s es → es ≡ [] → (step dim s undo_call).answer ≡ refused_with 17 0
  undo_nothing s es K h = go (undo_step s es K)
    where
      go : UndoStep s es → (step dim s undo_call).answer ≡ refused_with 17 0
      go (nothing q u) = ap (λ r. r.answer) u
      go (taken es₀ e r q u m K₀) = absurd (more_not_nil es₀ e (sym q ∙ h))

  -- none of the calls is refused, and the list is empty then
  abbrev pub Clears : Run → List Call → Type 0
  Clears r cs = (none_refused dim r cs ≡ true) × ((ran dim r cs).book ≡ [])

  clears_more : (s : Session) (es : List Edit) (r : Outcome) (x : Run) (cs : List Call) → step dim s undo_call ≡ r → was_refused r.answer ≡ false
      → noting es undo_call r ≡ x → Clears x cs → Clears (record { session = s; book = es }) (undo_call ∷ cs)
  clears_more s es r x cs u m n C =
      let made : not (was_refused (step dim s undo_call).answer) ≡ true = ap (λ y. not (was_refused y.answer)) u ∙ ap not m in
      let next : noting es undo_call (step dim s undo_call) ≡ x = ap (noting es undo_call) u ∙ n in
      ((and-eq-true_iff _ _).1 (made, ap (λ y. none_refused dim y cs) next ∙ C.0), ap (λ y. (ran dim y cs).book) next ∙ C.1)

  -- as many undos as the list is long, by its length
  abbrev pub ClearsAll : ℕ → Type 0
  ClearsAll n = (s : Session) (es : List Edit) → length es ≡ n → Kept dim s₀ s es → Clears (record { session = s; book = es }) (undos es)

  clears_last : (n : ℕ) (s : Session) (es : List Edit) → length es ≡ suc n → ClearsAll n → UndoStep s es
      → Clears (record { session = s; book = es }) (undos es)
  clears_last n s es l ih (nothing q u) = absurd (let z : length es ≡ 0 = ap length q in omega arith)
  clears_last n s es l ih (taken es₀ e r q u m K₀) =
      let long = length-append es₀ (e ∷ []) in
      let same : length es ≡ length (es₀ ++ (e ∷ [])) = ap length q in
      let rest = ih r.after es₀ (omega arith) K₀ in
      subst (Clears (record { session = s; book = es })) (sym (ap undos q ∙ undos_more es₀ e))
      (clears_more s es r (record { session = r.after; book = es₀ }) (undos es₀) u m (noting_undo es es₀ e r q m) rest)

  pub undos_clear : (n : ℕ) → ClearsAll n
  undos_clear zero s [] l K = (refl, refl)
  undos_clear zero s (d ∷ es) l K = absurd (omega arith)
  undos_clear (suc n) s es l K = clears_last n s es l (undos_clear n) (undo_step s es K)
