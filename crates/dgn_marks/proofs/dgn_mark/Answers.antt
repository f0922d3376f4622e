-- A slice that is too short leaves all as it was; a number that is no flag is refused; else the session's own step.
use native.Mathlib.Omega.{arith}
use mathlib.Core.Path.{refl}
use mathlib.Core.Option.{none}
use Rattle.edit_answers.proofs.Sessions.{not_left, bare_stepped, mark_left, mark_not}
use Rattle.dgn_marks.proofs.dgn_mark.Goals as goal

pub returns-then-out-lt2 : goal.returns-then-out-lt2
returns-then-out-lt2 c = not_left _ _ _ (c.if-out-lt2.true)

pub returns-then-deleted-gt1 : goal.returns-then-deleted-gt1
returns-then-deleted-gt1 c = mark_not _ _ _ _ _ (c.if-out-lt2.false) (c.if-deleted-gt1.true)

pub returns : goal.returns
returns c =
    mark_left _ _ _ _ _ c.mark-answer.result _ _ _ none _ c.if-out-lt2.false (omega arith) (bare_stepped _ _ _ refl c.mark-answer.ensures)
    c.put_edited.ensures
