-- The ways out of a step: refused at opening; of an edit its own refusals, 15, 16, or made.
use Prim.Native.Nat.{ℕ, ◌+◌, ◌*◌, ◌≤◌, ◌<◌}
use mathlib.Core.Path.{◌≡◌, refl, sym, ◌∙◌, subst}
use mathlib.Core.Bool.{true, false}
use mathlib.Core.List.{List}
use lib.ListN.{length}
use Rattle.edits.specs.Edits.{Edit}
use Rattle.edits.specs.Allowed.{Fault?, fine, fault}
use Rattle.edits.specs.Calls.{Session, size_of, index_fits, Call, piece_ok, words_of, session_fault, open_fault, stored, pushed, Outcome, refused, edit_made, edited, call_on, step, words_by, record_by}
use Rattle.edits.proofs.Allowed as edits
use Rattle.opening.specs.Steps.{Leaves, Stepped}
use Rattle.edits.specs.UsedLengths.{made_with}
use Rattle.edits.specs.declared.UsedLengths.{UsedLengths}
use Rattle.refusals.specs.Refusals.{refused_with}
use Rattle.refusals.specs.declared.Refusal.{Refusal}
use Rattle.std.specs.Prelude.{Result}

-- what a result says, by another that is the same
pub by_result : {p q : Outcome} {r : Result UsedLengths Refusal} {file journal : List ℕ} → p ≡ q → Leaves q r file journal → Leaves p r file journal
by_result {r = r} {file = file} {journal = journal} e = subst (λ z. Leaves z r file journal) (sym e)

pub left : {p : Outcome} (q : Outcome) → p ≡ q → Leaves p q.answer q.after.file q.after.journal
left q e = by_result e (record { answer = refl; file_is = refl; journal_is = refl })

---- opening

module _ (dim : ℕ) (s : Session) (c : Call) where
  -- a call whose piece, if it has one, may be lent is refused at opening as the session is
  open_same : piece_ok c ≡ true → open_fault dim s c ≡ session_fault dim s
  unfolding open_fault
  open_same e = rw e refl

  -- a piece that may not be lent
  open_piece : piece_ok c ≡ false → open_fault dim s c ≡ fault 1 0
  unfolding open_fault
  open_piece e = rw e refl

  pub closed : (n p : ℕ) → piece_ok c ≡ true → session_fault dim s ≡ fault n p → Stepped dim s c (refused_with n p) s.file s.journal
  unfolding step
  closed n p ok e = left (refused s n p) (rw (open_same ok, e) refl)

  pub not_lent : piece_ok c ≡ false → Stepped dim s c (refused_with 1 0) s.file s.journal
  unfolding step
  not_lent e = left (refused s 1 0) (rw (open_piece e) refl)

  pub opened : piece_ok c ≡ true → session_fault dim s ≡ fine → step dim s c ≡ call_on dim s (words_of s) c
  unfolding step
  opened ok e = rw (open_same ok, e) refl

---- edits

-- a call that asks for an edit
pub edit_step : (dim : ℕ) (s : Session) (c : Call) (e : Edit) (own : Fault?) {r : Result UsedLengths Refusal} {file journal : List ℕ} → piece_ok c ≡ true → session_fault dim s ≡ fine →
    call_on dim s (words_of s) c ≡ edited dim s e own → Leaves (edited dim s e own) r file journal → Stepped dim s c r file journal
edit_step dim s c e own ok ready is t = by_result (opened dim s c ok ready ∙ is) t

module _ (dim : ℕ) (s : Session) (e : Edit) (own : Fault?) where
  -- its own refusals
  pub edit_refused : (n p : ℕ) → own ≡ fault n p → Leaves (edited dim s e own) (refused_with n p) s.file s.journal
  edit_refused n p h = left (refused s n p) (edits.edit_own dim s e own n p h)

  module _ (fine' : own ≡ fine) where
    pub edit_room : length s.file < 2 * length (words_by dim s e) → Leaves (edited dim s e own) (refused_with 15 0) s.file s.journal
    edit_room h = left (refused s 15 0) (edits.edit_room dim s e own fine' h)

    -- none of these is reached where a lent index does not fit
    module _ (beside : index_fits dim (words_by dim s e) (size_of s.index) ≡ true) (fits : 2 * length (words_by dim s e) ≤ length s.file) where
      pub edit_journal : length s.journal < s.jused + 2 * length (record_by dim s e) → Leaves (edited dim s e own) (refused_with 16 0) s.file s.journal
      edit_journal h = left (refused s 16 0) (edits.edit_full dim s e own fine' fits beside h)

      -- made: the buffers and the lengths are those stored and pushed
      pub edit_done : s.jused + 2 * length (record_by dim s e) ≤ length s.journal → (used jused : ℕ) (file journal : List ℕ) →
          used ≡ 2 * length (words_by dim s e) → jused ≡ s.jused + 2 * length (record_by dim s e) →
          file ≡ stored s.file s.used (words_by dim s e) → journal ≡ pushed s.journal s.jused (record_by dim s e) →
          Leaves (edited dim s e own) (made_with used jused) file journal
      unfolding edit_made
      edit_done h used jused file journal u j f g = rw (u, j, f, g) (left (edit_made dim s (words_by dim s e) (record_by dim s e)) (edits.edit_made_lem dim s e own fine' fits beside h))
