-- What the calls of a session are handed and what they leave: the answer, and each byte of the file's, the journal's and a lent
-- index's buffer. The step of edits' specs/Calls decides them.
use Rattle.std.specs.Prelude.{ℕ, ◌%◌, ◌≡◌, cond, List, [], ◌∷◌, length, eqb, leb, Err, Ok, Result}
use Rattle.std.proofs.Math.Option.{Option, none, some}
use Rattle.refusals.specs.declared.Refusal.{Refusal}
use Rattle.edits.specs.Calls.{Index, Session, Call, mark_call, Outcome, refused, step}
use Rattle.edits.specs.declared.UsedLengths.{UsedLengths}
use Rattle.answers.specs.Answers.{Reply, done, refuse, Replied}

-- the used length and the buffer of an index, if one is lent
abbrev pub iused_of : Option Index → Option ℕ
iused_of none = none
iused_of (some i) = some i.iused

abbrev pub buffer_of : Option Index → Option (List ℕ)
buffer_of none = none
buffer_of (some i) = some i.buffer

-- how many numbers a call gives: the used lengths of file and journal, and that of a lent index
abbrev pub lengths_of : Option Index → ℕ
lengths_of none = 2
lengths_of (some i) = 3

-- these, or the refusal
abbrev pub edit_reply : Result UsedLengths Refusal → Option ℕ → Reply ℕ
edit_reply (Ok lengths) none = done (lengths.used ∷ lengths.jused ∷ [])
edit_reply (Ok lengths) (some iused) = done (lengths.used ∷ lengths.jused ∷ iused ∷ [])
edit_reply (Err refusal) iused = refuse refusal.number refusal.place

-- the same of any number and place, cut to 8 and 56 bits, which one number holds; no call's refusal loses by it (`small_cut`)
abbrev pub cut_reply : Result UsedLengths Refusal → Option ℕ → Reply ℕ
cut_reply (Ok lengths) iused = edit_reply (Ok lengths) iused
cut_reply (Err refusal) iused = refuse (refusal.number % 256) (refusal.place % 72057594037927936)

-- the session with its buffers as they then are; with no room for the answer all stay
abbrev pub left_by : Outcome → Session → List ℕ → Session
left_by q s out = cond (leb (lengths_of s.index) (length out)) q.after s

-- the number that is returned, the answer slice and the buffers, a lent index's too, as they then are
pub record Left (q : Outcome) (s : Session) (out : List ℕ) (n : ℕ) (file journal : List ℕ) (index : Option (List ℕ)) (t : List ℕ) : Type 0 where
  pub answer : Replied (lengths_of s.index) (edit_reply q.answer (iused_of q.after.index)) out n t
  pub file_is : file ≡ (left_by q s out).file
  pub journal_is : journal ≡ (left_by q s out).journal
  pub index_is : index ≡ buffer_of (left_by q s out).index

-- of one call, and of one that is lent no index
abbrev pub StepLeftAll : ℕ → Session → Call → List ℕ → ℕ → List ℕ → List ℕ → Option (List ℕ) → List ℕ → Type 0
StepLeftAll dim s c out n file journal index t = Left (step dim s c) s out n file journal index t

abbrev pub StepLeft : ℕ → Session → Call → List ℕ → ℕ → List ℕ → List ℕ → List ℕ → Type 0
StepLeft dim s c out n file journal t = StepLeftAll dim s c out n file journal none t

-- of a mark: 1 marks deleted and 0 live, any other number is refused by 1
abbrev pub marked : ℕ → Session → ℕ → ℕ → Outcome
marked dim s place deleted = cond (leb deleted 1) (step dim s (mark_call place (eqb deleted 1))) (refused s 1 0)

abbrev pub MarkLeftAll : ℕ → Session → ℕ → ℕ → List ℕ → ℕ → List ℕ → List ℕ → Option (List ℕ) → List ℕ → Type 0
MarkLeftAll dim s place deleted out n file journal index t = Left (marked dim s place deleted) s out n file journal index t

abbrev pub MarkLeft : ℕ → Session → ℕ → ℕ → List ℕ → ℕ → List ℕ → List ℕ → List ℕ → Type 0
MarkLeft dim s place deleted out n file journal t = MarkLeftAll dim s place deleted out n file journal none t

-- a header's place as a number, 18446744073709551615 for the top
abbrev pub header_given : ℕ → Option ℕ
header_given n = cond (eqb n 18446744073709551615) none (some n)
