-- What a call of a session owes (RULES.md, "Sessions"): it is one step of edits' definition of a session, of which
-- demand 3 is proved. After that stand an open session, which serves the contracts of private functions, and header
-- places as numbers.
use Rattle.std.specs.Prelude.{ℕ, ◌-◌, ◌≡◌, List, cond, length, eqb, Result}
use Rattle.std.proofs.Math.Option.{Option}
use Rattle.places.specs.declared.Above.{Above}
use Rattle.places.specs.declared.Above.TheVariants.{Top, Under}
use Rattle.places.specs.Descent.{locate_of}
use Rattle.edits.specs.Allowed.{fine}
use Rattle.edits.specs.Calls.{Index, Session, Call, used_words, session_fault, Outcome, step}
use Rattle.opening.specs.Opening.{session_of}
use Rattle.edits.specs.declared.UsedLengths.{UsedLengths}
use Rattle.places.specs.declared.Spotted.{Spotted}
use Rattle.refusals.specs.declared.Refusal.{Refusal}

-- what is answered and left in the two buffers is what a result says
pub record Leaves (q : Outcome) (r : Result UsedLengths Refusal) (file journal : List ℕ) : Type 0 where
  pub answer : r ≡ q.answer
  pub file_is : file ≡ q.after.file
  pub journal_is : journal ≡ q.after.journal

-- and in a lent index
pub record LeavesAll (q : Outcome) (r : Result UsedLengths Refusal) (file journal : List ℕ) (index : Option Index) : Type 0 where
  pub buffers : Leaves q r file journal
  pub index_is : index ≡ q.after.index

abbrev pub SteppedAll : ℕ → Session → Call → Result UsedLengths Refusal → List ℕ → List ℕ → Option Index → Type 0
SteppedAll dim s c r file journal index = LeavesAll (step dim s c) r file journal index

-- of a call that is lent no index: what its step says
abbrev pub Stepped : ℕ → Session → Call → Result UsedLengths Refusal → List ℕ → List ℕ → Type 0
Stepped dim s c r file journal = Leaves (step dim s c) r file journal

-- the place of the last used word, where the marker of an open session's file stands
abbrev pub last_place : List ℕ → ℕ → ℕ
last_place file used = length (used_words file used) - 1

-- a session that opens, with what starts at the place p of its file
pub record Open (dim : ℕ) (file : List ℕ) (used : ℕ) (journal : List ℕ) (jused p : ℕ) (found : Result Spotted Refusal) : Type 0 where
  pub ready : session_fault dim (session_of file used journal jused) ≡ fine
  pub found_is : found ≡ locate_of (used_words file used) p (last_place file used)

-- a header place as a number, 4294967295 (the long -1) for the top, and back
abbrev pub number_of : Above → ℕ
number_of Top = 4294967295
number_of (Under h) = h

abbrev pub above_at : ℕ → Above
above_at n = cond (eqb n 4294967295) Top (Under n)
