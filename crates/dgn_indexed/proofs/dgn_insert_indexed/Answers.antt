-- A slice that is too short leaves all as it was; else the session's own step.
use Rattle.indexed.specs.Indexed.{edited_of}
use Rattle.edit_answers.proofs.Sessions.{not_left, left}
use Rattle.dgn_indexed.proofs.dgn_insert_indexed.Goals as goal

pub returns-then-out-lt3 : goal.returns-then-out-lt3
returns-then-out-lt3 c = not_left _ _ _ (c.if-out-lt3.true)

pub returns : goal.returns
returns c =
    left _ _ _ _ (edited_of (c.insert-answer.result)) _ _ _ _ _ (c.if-out-lt3.false) (rw (c.header_given-above.ensures) at (c.insert-answer.ensures)) (c.put.ensures)
