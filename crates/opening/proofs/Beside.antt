-- A call that is lent an index, by the call without one: where the index of the words after it fits, it answers and leaves the
-- same, and the index afresh where it is made; where it does not fit, its own refusal or 15.
use Prim.Native.Nat.{ℕ, ◌+◌, ◌*◌}
use mathlib.Core.Path.{◌≡◌, refl}
use mathlib.Core.Bool.{true, false, cond}
use mathlib.Core.List.{List}
use mathlib.Core.Option.{Option, none, some}
use lib.ListN.{length}
use lib.Dec.{leb}
use Rattle.edits.specs.Edits.{Edit, apply}
use Rattle.edits.specs.Allowed.{Fault?, fine, fault, or_else, unless}
use Rattle.edits.specs.Records.{record_of, record_words}
use Rattle.edits.specs.Calls.{Index, Session, index_ok, index_fits, afresh, used_words, session_ok, session_fault, Outcome, refused, result_by, edit_made, edit_within, edited}
use Rattle.edits.specs.Book.{was_refused}
use Rattle.edits.proofs.Tested.{ready_tested}
use Rattle.opening.specs.Opening.{session_with, session_of}

-- q answers and leaves what p does, and of the index what was lent where it is refused, else `new`
pub record Beside (q p : Outcome) (i : Index) (new : Option Index) : Type 0 where
  pub answer : q.answer ≡ p.answer
  pub file_is : q.after.file ≡ p.after.file
  pub used_is : q.after.used ≡ p.after.used
  pub journal_is : q.after.journal ≡ p.after.journal
  pub jused_is : q.after.jused ≡ p.after.jused
  pub index_is : q.after.index ≡ cond (was_refused p.answer) (some i) new

-- a refusal of its own, or 15
abbrev pub refused_by : Fault? → Session → Outcome
refused_by fine s = refused s 15 0
refused_by (fault n p) s = refused s n p

crowded : (f : Fault?) (s : Session) (q : Outcome) → result_by (or_else f (fault 15 0)) s q ≡ refused_by f s
crowded fine s q = refl
crowded (fault n p) s q = refl

-- it opens where the session without it does
pub opens_with : (file : List ℕ) (used : ℕ) (journal : List ℕ) (jused : ℕ) (x : Option Index) (dim : ℕ) → index_ok x ≡ true →
    session_fault dim (session_with file used journal jused x) ≡ session_fault dim (session_of file used journal jused)
unfolding session_fault session_ok
opens_with file used journal jused x dim ok = rw ok refl

module _ (file : List ℕ) (used : ℕ) (journal : List ℕ) (jused : ℕ) (i : Index) where
  beside_by : (f : Fault?) (q p : Outcome) (new : Option Index) → Beside q p i new →
      Beside (result_by f (session_with file used journal jused (some i)) q) (result_by f (session_with file used journal jused none) p) i new
  beside_by fine q p new b = b
  beside_by (fault n m) q p new b = record { answer = refl; file_is = refl; used_is = refl; journal_is = refl; jused_is = refl; index_is = refl }

  module _ (dim : ℕ) (e : Edit) (own : Fault?) where
    pub edit_beside : index_fits dim (apply dim (used_words file used) e) (some (length i.buffer)) ≡ true →
        Beside (edited dim (session_with file used journal jused (some i)) e own) (edited dim (session_with file used journal jused none) e own) i
        (afresh dim (apply dim (used_words file used) e) (some (length i.buffer)))
    unfolding edited edit_within edit_made
    edit_beside fits =
        let w = apply dim (used_words file used) e in
        let r = record_words (record_of dim (used_words file used) e) in
        rw fits (beside_by (or_else own (or_else (unless (leb (2 * length w) (length file)) 15) (unless (leb (jused + 2 * length r) (length journal)) 16)))
        (edit_made dim (session_with file used journal jused (some i)) w r) (edit_made dim (session_with file used journal jused none) w r) _
        (record { answer = refl; file_is = refl; used_is = refl; journal_is = refl; jused_is = refl; index_is = refl }))

    -- its own refusal comes first, then 15, before 16
    pub edit_crowded : index_fits dim (apply dim (used_words file used) e) (some (length i.buffer)) ≡ false →
        edited dim (session_with file used journal jused (some i)) e own ≡ refused_by own (session_with file used journal jused (some i))
    unfolding edited edit_within
    edit_crowded full = rw full (crowded own (session_with file used journal jused (some i)) _)

-- a session that opens with an index opens without it
pub bare_ready : (dim : ℕ) (s : Session) → session_fault dim s ≡ fine → session_fault dim (session_of s.file s.used s.journal s.jused) ≡ fine
unfolding session_fault session_ok
bare_ready dim s e = let i = (ready_tested dim s e).index in rw i at e
