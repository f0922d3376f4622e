-- The ways out of an undo, 17, 19, 15 or made, and of one record's reversal.
use Prim.Native.Nat.{ℕ, ◌*◌, ◌≤◌, ◌<◌}
use mathlib.Core.Path.{◌≡◌, refl, ◌∙◌}
use mathlib.Core.Bool.{Bool, true, false, not}
use mathlib.Core.List.{List}
use mathlib.Core.Option.{Option, none, some}
use native.Mathlib.Omega.{arith}
use lib.ListN.{length, take}
use lib.Dec.{eqb}
use borrow.Author.Tests.{le-leb, lt-leb, ne_eqb}
use Rattle.edits.specs.Edits.{apply}
use Rattle.edits.specs.Allowed.{Fault?, fine, fault, unless}
use Rattle.edits.specs.Records.{Rec, Newest, last_record, reversal, reversible}
use Rattle.edits.specs.Calls.{Index, Session, size_of, index_ok, index_fits, undo_call, used_words, journal_of, words_of, session_fault, open_fault, stored, Outcome, refused, result_by, undo_made}
use Rattle.edits.specs.Calls.{words_back, reversal_fault, undo_by, undone, step}
use Rattle.opening.proofs.Opening.{AcceptedUsed, open_accepted}
use Rattle.opening.specs.Opening.{session_with, session_of}
use Rattle.opening.specs.Steps.{Leaves, Stepped, last_place, Open}
use Rattle.opening.proofs.Beside.{opens_with}
use Rattle.opening.proofs.Steps.{by_result, left}
use Rattle.opening.proofs.OpenSession.{open_by, file_lengths}
use Rattle.undoing.specs.Undoing.{Reversed, back_number, back_fault, answer_by, file_by, OpenFile, told_by, undo_told}
use Rattle.edits.specs.UsedLengths.{made_with}
use Rattle.edits.specs.declared.UsedLengths.{UsedLengths}
use Rattle.places.specs.declared.Spotted.{Spotted}
use Rattle.refusals.specs.Refusals.{refused_with}
use Rattle.refusals.specs.declared.Refusal.{Refusal}
use Rattle.std.specs.Prelude.{Result}

---- the file of an open session

module _ (dim : ℕ) (file : List ℕ) (used : ℕ) (journal : List ℕ) (jused : ℕ) where
  pub open_file : (p q : ℕ) (found : Result Spotted Refusal) → p ≡ q → Open dim file used journal jused p found → OpenFile dim file used q found
  open_file p q found e o =
      let a = open_accepted dim file used journal jused o.ready in
      let l = file_lengths dim file used journal jused o.ready in
      record {
        elements = a.elements;
        deepest = a.deepest;
        judged = a.judged;
        last = a.last;
        even = l.used_even;
        within = l.within;
        found_is = (open_by dim file used journal jused e o).found_is;
      }

-- its used part, as opening's laws have it
pub accepted_used : (dim : ℕ) (file : List ℕ) (used p : ℕ) (found : Result Spotted Refusal) → OpenFile dim file used p found → AcceptedUsed dim (take used file) (last_place file used)
accepted_used dim file used p found o = record { elements = o.elements; deepest = o.deepest; judged = o.judged; last = o.last }

---- undo

-- what is made of an undo that nothing refuses, and what a refusal leaves
module _ (dim : ℕ) (s : Session) (ws : List ℕ) (before : ℕ) where
  answer_of : (f : Fault?) → answer_by f (2 * length ws) before ≡ (result_by f s (undo_made dim s ws before)).answer
  unfolding undo_made
  answer_of fine = refl
  answer_of (fault n p) = refl

  file_of : (f : Fault?) → file_by f (stored s.file s.used ws) s.file ≡ (result_by f s (undo_made dim s ws before)).after.file
  unfolding undo_made
  file_of fine = refl
  file_of (fault n p) = refl

  journal_of_lem : (f : Fault?) → s.journal ≡ (result_by f s (undo_made dim s ws before)).after.journal
  unfolding undo_made
  journal_of_lem fine = refl
  journal_of_lem (fault n p) = refl

pub undo_closed : (dim : ℕ) (s : Session) (full : Bool) (n p : ℕ) → session_fault dim s ≡ fault n p → Leaves (undo_told dim s full) (refused_with n p) s.file s.journal
unfolding undo_told
undo_closed dim s full n p e = left (refused s n p) (rw e refl)

module _ (dim : ℕ) (s : Session) (full : Bool) (ready : session_fault dim s ≡ fine) where
  pub undo_nothing : s.jused ≡ 0 → Leaves (undo_told dim s full) (refused_with 17 0) s.file s.journal
  unfolding undo_told
  undo_nothing e = left (refused s 17 0) (rw (ready, e) refl)

  module _ (some_used : s.jused ≡ 0 → ⊥) where
    undo_some : undo_told dim s full ≡ told_by dim s full (last_record (journal_of s))
    unfolding undo_told
    undo_some = rw (ready, ne_eqb s.jused 0 some_used) refl

    pub undo_bad : last_record (journal_of s) ≡ none → Leaves (undo_told dim s full) (refused_with 19 0) s.file s.journal
    undo_bad e = left (refused s 19 0) (undo_some ∙ rw e refl)

    -- the last record's reversal, by what it answers and leaves
    pub undo_reversed : (rec : Rec) (js : List ℕ) (before : ℕ) (r : Result UsedLengths Refusal) (after : List ℕ) → last_record (journal_of s) ≡ some (rec, js) → 2 * length js ≡ before →
        Reversed dim s.file s.used rec full before r after → Leaves (undo_told dim s full) r after s.journal
    unfolding undo_made
    undo_reversed rec js before r after e l v =
        let ws = words_of s in
        let f = back_fault dim ws (length s.file) full rec in
        let q = undo_made dim s (apply dim ws (reversal ws rec)) (2 * length js) in
        let is : undo_told dim s full ≡ result_by f s q = undo_some ∙ rw e refl in
        by_result is (record {
          answer = v.answer ∙ rw (← l) (answer_of dim s (apply dim ws (reversal ws rec)) (2 * length js) f);
          file_is = v.file_is ∙ file_of dim s (apply dim ws (reversal ws rec)) (2 * length js) f;
          journal_is = journal_of_lem dim s (apply dim ws (reversal ws rec)) (2 * length js) f;
        })

---- an undo with an index, or none, by the one that is told of it

-- `full` tells of an index whether that of the words after the last record's reversal does not fit
abbrev pub Fullness : ℕ → List ℕ → List ℕ → Option Index → Bool → Type 0
Fullness dim ws js x full =
    (rec : Rec) (rest : List ℕ) → last_record js ≡ some (rec, rest) → reversible dim ws rec ≡ true →
    index_fits dim (words_back dim ws rec) (size_of x) ≡ not full

-- the refusal of a reversal, by what is told of the index
fault_told : (dim : ℕ) (ws : List ℕ) (size : ℕ) (beside : Option ℕ) (rec : Rec) (full : Bool) →
    (reversible dim ws rec ≡ true → index_fits dim (words_back dim ws rec) beside ≡ not full) → back_fault dim ws size full rec ≡ reversal_fault dim ws size beside rec
fault_told dim ws size beside rec full told = go (reversible dim ws rec) refl
  where
    go : (b : Bool) → reversible dim ws rec ≡ b → back_fault dim ws size full rec ≡ reversal_fault dim ws size beside rec
    go true e = rw (e, told e) refl
    go false e = rw e refl

module _ (dim : ℕ) (file : List ℕ) (used : ℕ) (journal : List ℕ) (jused : ℕ) (x : Option Index) (full : Bool) (ok : index_ok x ≡ true) (r : Result UsedLengths Refusal) (after : List ℕ) where
  abbrev bare : Session
  bare = session_of file used journal jused

  abbrev whole : Session
  whole = session_with file used journal jused x

  -- what a refusal leaves, and what is made, are the same but for the index
  same_by : (f : Fault?) (p q : Outcome) → (Leaves p r after journal → Leaves q r after journal) → Leaves (result_by f bare p) r after journal → Leaves (result_by f whole q) r after journal
  same_by fine p q h t = h t
  same_by (fault n m) p q h t = record { answer = t.answer; file_is = t.file_is; journal_is = t.journal_is }

  same_made : (ws : List ℕ) (before : ℕ) → Leaves (undo_made dim bare ws before) r after journal → Leaves (undo_made dim whole ws before) r after journal
  unfolding undo_made
  same_made ws before t = record { answer = t.answer; file_is = t.file_is; journal_is = t.journal_is }

  told_newest : Fullness dim (used_words file used) (used_words journal jused) x full → (l : Newest) → last_record (used_words journal jused) ≡ l →
      Leaves (told_by dim bare full l) r after journal → Leaves (undo_by dim whole (used_words file used) l) r after journal
  told_newest told none e t = record { answer = t.answer; file_is = t.file_is; journal_is = t.journal_is }
  told_newest told (some l) e t =
      let ws = used_words file used in
      let w = words_back dim ws l.0 in
      same_by (reversal_fault dim ws (length file) (size_of x) l.0) (undo_made dim bare w (2 * length l.1)) (undo_made dim whole w (2 * length l.1)) (same_made w (2 * length l.1))
      (rw (fault_told dim ws (length file) (size_of x) l.0 full (told l.0 l.1 e)) at t)

  -- so an undo that is told is one step of the session with the index; of the fullness nothing need be told where the session does not open
  pub told_step : (session_fault dim (session_of file used journal jused) ≡ fine → Fullness dim (used_words file used) (used_words journal jused) x full) →
      Leaves (undo_told dim (session_of file used journal jused) full) r after journal → Stepped dim (session_with file used journal jused x) undo_call r after journal
  unfolding step open_fault undo_told undone
  told_step told t = rw (opens_with file used journal jused x dim ok) (go (session_fault dim bare) refl t)
    where
      go : (f : Fault?) → session_fault dim bare ≡ f → Leaves (result_by f bare (result_by (unless (not (eqb jused 0)) 17) bare (told_by dim bare full (last_record (used_words journal jused))))) r after journal →
          Leaves (result_by f whole (result_by (unless (not (eqb jused 0)) 17) whole (undo_by dim whole (used_words file used) (last_record (used_words journal jused))))) r after journal
      go fine e u =
          same_by (unless (not (eqb jused 0)) 17) (told_by dim bare full (last_record (used_words journal jused))) (undo_by dim whole (used_words file used) (last_record (used_words journal jused)))
          (told_newest (told e) (last_record (used_words journal jused)) refl) u
      go (fault n m) e u = record { answer = u.answer; file_is = u.file_is; journal_is = u.journal_is }

---- one record's reversal

-- nothing refuses it where it is allowed and the index will fit
pub number_zero : (b full : Bool) (n : ℕ) → n ≡ back_number b full → n ≡ 0 → (b ≡ true) × (full ≡ false)
number_zero true false n e z = (refl, refl)
number_zero true true n e z = absurd (omega arith)
number_zero false full n e z = absurd (omega arith)

module _ (dim : ℕ) (file : List ℕ) (used : ℕ) (rec : Rec) (full : Bool) (before : ℕ) where
  abbrev back : List ℕ
  back = words_back dim (used_words file used) rec

  pub back_refused : (n : ℕ) → n ≡ back_number (reversible dim (used_words file used) rec) full → (n ≡ 0 → ⊥) → Reversed dim file used rec full before (refused_with n 0) file
  back_refused n e z = go (reversible dim (used_words file used) rec) refl full refl e
    where
      go : (b : Bool) → reversible dim (used_words file used) rec ≡ b → (f : Bool) → full ≡ f → n ≡ back_number b f → Reversed dim file used rec full before (refused_with n 0) file
      go false q f g k = record { answer = rw (q, k) refl; file_is = rw q refl }
      go true q true g k = record { answer = rw (q, g, k) refl; file_is = rw (q, g) refl }
      go true q false g k = absurd (z k)

  module _ (allowed : reversible dim (used_words file used) rec ≡ true) (fits : full ≡ false) where
    pub back_room : length file < 2 * length (words_back dim (used_words file used) rec) → Reversed dim file used rec full before (refused_with 15 0) file
    back_room h =
        record { answer = rw (allowed, fits, lt-leb (2 * length back) (length file) h) refl; file_is = rw (allowed, fits, lt-leb (2 * length back) (length file) h) refl }

    pub back_done : 2 * length (words_back dim (used_words file used) rec) ≤ length file → (used' : ℕ) (after : List ℕ) →
        used' ≡ 2 * length (words_back dim (used_words file used) rec) → after ≡ stored file used (words_back dim (used_words file used) rec) →
        Reversed dim file used rec full before (made_with used' before) after
    back_done h used' after u f =
        record { answer = rw (allowed, fits, le-leb (2 * length back) (length file) h, u) refl; file_is = rw (allowed, fits, le-leb (2 * length back) (length file) h) f }
