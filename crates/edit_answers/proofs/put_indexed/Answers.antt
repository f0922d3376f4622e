-- A slice with room for three has room for two: what `put_edited` leaves there, and the third number behind it where there is one.
use Prim.Native.Nat.{ℕ, ◌≤◌}
use mathlib.Core.Path.{◌≡◌, ap, sym, ◌∙◌}
use mathlib.Core.Bool.{true, false, false≢true}
use mathlib.Core.List.{List}
use mathlib.Core.Option.{none, some}
use native.Mathlib.Omega.{arith}
use lib.ListN.{length, set}
use borrow.Author.Tests.{le-leb}
use Rattle.std.specs.Prelude.{Err, Ok, Result, is_ok}
use Rattle.refusals.specs.declared.Refusal.{Refusal}
use Rattle.edits.specs.declared.UsedLengths.{UsedLengths}
use Rattle.answers.specs.Answers.{Replied}
use Rattle.answers.proofs.Laws.{too_short}
use Rattle.edit_answers.specs.Editing.{cut_reply}
use Rattle.edit_answers.proofs.put_indexed.Goals as goal

module _ (out t : List ℕ) (n iused : ℕ) (room : 3 ≤ length out) where
  made : (a : Result UsedLengths Refusal) → is_ok a ≡ true → Replied 2 (cut_reply a none) out n t → Replied 3 (cut_reply a (some iused)) out n (set t 2 iused)
  made (Ok lengths) e r =
      let is : n ≡ 0 = rw (le-leb 2 (length out) (omega arith)) at r.is in
      let front : t ≡ set (set out 0 lengths.used) 1 lengths.jused = rw (le-leb 2 (length out) (omega arith)) at r.out in
      record { is = simp (le-leb 3 (length out) room) is; out = simp (le-leb 3 (length out) room) (ap (λ l. set l 2 iused) front) }
  made (Err refusal) e r = absurd (false≢true e)

  refused : (a : Result UsedLengths Refusal) → is_ok a ≡ false → Replied 2 (cut_reply a none) out n t → Replied 3 (cut_reply a (some iused)) out n t
  refused (Ok lengths) e r = absurd (false≢true (sym e))
  refused (Err refusal) e r = record {
    is = simp (le-leb 3 (length out) room) (rw (le-leb 2 (length out) (omega arith)) at r.is);
    out = simp (le-leb 3 (length out) room) (rw (le-leb 2 (length out) (omega arith)) at r.out);
  }

pub returns-then-out-lt3 : goal.returns-then-out-lt3
returns-then-out-lt3 c = too_short 3 _ c.args.out.now c.if-out-lt3.true

pub returns-then-is_ok : goal.returns-then-is_ok
returns-then-is_ok c =
    made _ _ _ _ c.if-out-lt3.false _ (sym c.is_ok.ensures.value ∙ c.if-is_ok.true) c.put_edited-returned.ensures

pub returns-else-is_ok : goal.returns-else-is_ok
returns-else-is_ok c =
    refused _ _ _ _ c.if-out-lt3.false _ (sym c.is_ok.ensures.value ∙ c.if-is_ok.false) c.put_edited-returned.ensures
