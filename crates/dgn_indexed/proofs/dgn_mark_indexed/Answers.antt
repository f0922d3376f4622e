-- A slice that is too short leaves all as it was; a number that is no flag is refused; else the session's own step.
use Rattle.indexed.specs.Indexed.{edited_of}
use Rattle.edit_answers.proofs.Sessions.{not_left, mark_left, mark_not}
use Rattle.dgn_indexed.proofs.dgn_mark_indexed.Goals as goal

pub returns-then-out-lt3 : goal.returns-then-out-lt3
returns-then-out-lt3 c = not_left _ _ _ (c.if-out-lt3.true)

pub returns-then-deleted-gt1 : goal.returns-then-deleted-gt1
returns-then-deleted-gt1 c = mark_not _ _ _ _ _ (c.if-out-lt3.false) (c.if-deleted-gt1.true)

pub returns : goal.returns
returns c =
    mark_left _ _ _ _ _ (edited_of (c.mark-answer.result)) _ _ _ _ _ (c.if-out-lt3.false) (c.if-deleted-gt1.false) (c.mark-answer.ensures) (c.put.ensures)
