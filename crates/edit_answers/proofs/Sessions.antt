-- What a call of a session leaves, with too short an answer slice and by the library's own step.
use Prim.Native.Nat.{ℕ, ◌%◌, ◌<◌, ◌≤◌}
use mathlib.Core.Path.{◌≡◌, refl, sym, ap}
use mathlib.Core.List.{List}
use mathlib.Core.Option.{Option, none}
use native.Mathlib.Omega.{arith}
use lib.ListN.{length}
use lib.Dec.{eqb}
use borrow.Author.Tests.{le-leb, lt-leb}
use Rattle.std.specs.Prelude.{Err, Ok, Result}
use Rattle.refusals.specs.declared.Refusal.{Refusal}
use Rattle.edits.specs.Calls.{Index, Session, Call, mark_call, Outcome, step}
use Rattle.edits.specs.declared.UsedLengths.{UsedLengths}
use Rattle.opening.specs.Steps.{SteppedAll, Stepped}
use Rattle.answers.specs.Answers.{refuse, Replied}
use Rattle.answers.proofs.Laws.{too_short, answered}
use Rattle.edit_answers.specs.Editing.{iused_of, buffer_of, lengths_of, edit_reply, cut_reply, Left, StepLeftAll, MarkLeftAll}
use Rattle.edit_answers.proofs.Places.{edit_small}
use Rattle.edit_answers.proofs.Results.{bare_step}

-- no room for the answer
pub not_left : (q : Outcome) (s : Session) (out : List ℕ) → length out < lengths_of s.index → Left q s out 1 s.file s.journal (buffer_of s.index) out
not_left q s out h = record {
  answer = too_short (lengths_of s.index) _ out h;
  file_is = simp (lt-leb (lengths_of s.index) (length out) h);
  journal_is = simp (lt-leb (lengths_of s.index) (length out) h);
  index_is = simp (lt-leb (lengths_of s.index) (length out) h);
}

-- a call's answer loses nothing by the cut
pub small_cut : (dim : ℕ) (s : Session) (c : Call) (r : Result UsedLengths Refusal) (iused : Option ℕ) → r ≡ (step dim s c).answer → cut_reply r iused ≡ edit_reply r iused
small_cut dim s c (Ok lengths) iused e = refl
small_cut dim s c (Err refusal) iused e =
    let h = edit_small dim s c refusal.number refusal.place (sym e) in
    let number : refusal.number % 256 ≡ refusal.number = omega arith in
    let place : refusal.place % 72057594037927936 ≡ refusal.place = omega arith in
    rw (number, place) refl

-- a call that is lent no index leaves none
pub bare_stepped : (dim : ℕ) (s : Session) (c : Call) {r : Result UsedLengths Refusal} {file journal : List ℕ} → s.index ≡ none → Stepped dim s c r file journal → SteppedAll dim s c r file journal none
bare_stepped dim s c i o = record { buffers = o; index_is = bare_step dim s c i }

module _ (dim : ℕ) (s : Session) (out : List ℕ) where
  -- the library's own answer and bytes
  pub left : (c : Call) (r : Result UsedLengths Refusal) (n : ℕ) (file journal : List ℕ) (index : Option Index) (t : List ℕ) → lengths_of s.index ≤ length out →
      SteppedAll dim s c r file journal index → Replied (lengths_of s.index) (cut_reply r (iused_of index)) out n t → StepLeftAll dim s c out n file journal (buffer_of index) t
  left c r n file journal index t h o a = record {
    answer = rw (small_cut dim s c r (iused_of index) o.buffers.answer, o.buffers.answer, o.index_is) at a;
    file_is = simp (le-leb (lengths_of s.index) (length out) h) o.buffers.file_is;
    journal_is = simp (le-leb (lengths_of s.index) (length out) h) o.buffers.journal_is;
    index_is = simp (le-leb (lengths_of s.index) (length out) h) (ap buffer_of o.index_is);
  }

  -- a mark by 0 or 1
  pub mark_left : (place deleted : ℕ) (r : Result UsedLengths Refusal) (n : ℕ) (file journal : List ℕ) (index : Option Index) (t : List ℕ) → lengths_of s.index ≤ length out → deleted ≤ 1 →
      SteppedAll dim s (mark_call place (eqb deleted 1)) r file journal index → Replied (lengths_of s.index) (cut_reply r (iused_of index)) out n t →
      MarkLeftAll dim s place deleted out n file journal (buffer_of index) t
  mark_left place deleted r n file journal index t h d o a =
      rw (le-leb deleted 1 d) (left (mark_call place (eqb deleted 1)) r n file journal index t h o a)

  -- and by another number
  pub mark_not : (place deleted : ℕ) → lengths_of s.index ≤ length out → 1 < deleted →
      MarkLeftAll dim s place deleted out 1 s.file s.journal (buffer_of s.index) out
  mark_not place deleted h d = rw (lt-leb deleted 1 d) (record {
    answer = answered (lengths_of s.index) _ (refuse 1 0) out refl h;
    file_is = simp (le-leb (lengths_of s.index) (length out) h);
    journal_is = simp (le-leb (lengths_of s.index) (length out) h);
    index_is = simp (le-leb (lengths_of s.index) (length out) h);
  })
