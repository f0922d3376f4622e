-- What an undo reads, what the reversal of one record owes (promises of private functions), and an undo that is told of an index.
use Rattle.std.specs.Prelude.{ℕ, ◌+◌, ◌*◌, ◌%◌, ◌≤◌, ◌<◌, ◌≡◌, List, Bool, not, cond, ◌&&◌, length, take, eqb, leb, None, Option, Some, Result}
use Rattle.std.proofs.Math.Option.{none, some}
use Rattle.files.specs.Judge.{judge_of}
use Rattle.places.specs.Descent.{locate_of}
use Rattle.edits.specs.Edits.{apply}
use Rattle.edits.specs.Allowed.{Fault?, fine, fault, or_else, unless}
use Rattle.edits.specs.Records.{Rec, Newest, last_record, reversal, reversible}
use Rattle.edits.specs.Calls.{Session, used_words, words_of, journal_of, session_fault, stored, Outcome, refused, result_by, undo_made, words_back}
use Rattle.journals.specs.declared.Last.TheVariants as last
use Rattle.journals.specs.Journals.{LastRead}
use Rattle.opening.specs.Steps.{last_place}
use Rattle.edits.specs.UsedLengths.{made_with}
use Rattle.edits.specs.declared.UsedLengths.{UsedLengths}
use Rattle.files.specs.Accepted.{accepted_with}
use Rattle.journals.specs.declared.Last.{Last}
use Rattle.places.specs.declared.Spotted.{Spotted}
use Rattle.refusals.specs.Refusals.{refused_with}
use Rattle.refusals.specs.declared.Refusal.{Refusal}

-- the file of a session that opens, with what starts at the place p of it
pub record OpenFile (dim : ℕ) (file : List ℕ) (used p : ℕ) (found : Result Spotted Refusal) : Type 0 where
  pub elements : ℕ
  pub deepest : ℕ
  pub judged : judge_of dim (take used file) ≡ accepted_with elements deepest (last_place file used)
  pub last : last_place file used + 1 ≡ length (used_words file used)
  pub even : used % 2 ≡ 0
  pub within : used ≤ length file
  pub found_is : found ≡ locate_of (used_words file used) p (last_place file used)

-- the last record of a journal by its used length; none where that is beyond the journal
pub record RecordBy (journal : List ℕ) (jused : ℕ) (r : Option Last) : Type 0 where
  pub within : jused ≤ length journal → LastRead (take jused journal) r
  pub beyond : length journal < jused → r ≡ None

-- the place that a record names, 0 where there is none
abbrev pub place_in : Option Last → ℕ
place_in None = 0
place_in (Some (last.Flag p n before)) = p
place_in (Some (last.Renamed p a b before)) = p
place_in (Some (last.Inserted h p before)) = p
place_in (Some (last.Removed h p n before)) = p

-- a refusal, or what is made
abbrev pub answer_by : Fault? → ℕ → ℕ → Result UsedLengths Refusal
answer_by fine used jused = made_with used jused
answer_by (fault n p) used jused = refused_with n p

abbrev pub file_by : Fault? → List ℕ → List ℕ → List ℕ
file_by fine after before = after
file_by (fault n p) after before = before

-- the number that a reversal is refused by, 0 for none: 19 where it is not allowed, then 15 where the index after it does not fit
abbrev pub back_number : Bool → Bool → ℕ
back_number reverses full = cond reverses (cond full 15 0) 19

-- 19 and 15 of a record's reversal, with an index that will not fit or one that will
abbrev pub back_fault : ℕ → List ℕ → ℕ → Bool → Rec → Fault?
back_fault dim ws size full rec =
    or_else (unless (reversible dim ws rec) 19) (unless (not full && leb (2 * length (words_back dim ws rec)) size) 15)

-- what reversing a record answers and leaves, where the journal's used length before the record is `before`
pub record Reversed (dim : ℕ) (file : List ℕ) (used : ℕ) (rec : Rec) (full : Bool) (before : ℕ) (r : Result UsedLengths Refusal) (after : List ℕ) : Type 0 where
  pub answer : r ≡ answer_by (back_fault dim (used_words file used) (length file) full rec) (2 * length (apply dim (used_words file used) (reversal (used_words file used) rec))) before
  pub file_is : after ≡ file_by (back_fault dim (used_words file used) (length file) full rec) (stored file used (apply dim (used_words file used) (reversal (used_words file used) rec))) file

-- an undo of a session without an index that is told whether the index of the file after it will not fit: 17, 19, 15 there as well, or made
abbrev pub told_by : ℕ → Session → Bool → Newest → Outcome
told_by dim s full none = refused s 19 0
told_by dim s full (some l) =
    result_by (back_fault dim (words_of s) (length s.file) full l.0) s (undo_made dim s (words_back dim (words_of s) l.0) (2 * length l.1))

unfoldable pub undo_told : ℕ → Session → Bool → Outcome
undo_told dim s full =
    result_by (session_fault dim s) s (result_by (unless (not (eqb s.jused 0)) 17) s (told_by dim s full (last_record (journal_of s))))
