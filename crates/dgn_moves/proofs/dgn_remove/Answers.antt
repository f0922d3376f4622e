-- A slice that is too short leaves all as it was; else the session's own step.
use mathlib.Core.Path.{refl}
use mathlib.Core.Option.{none}
use Rattle.edit_answers.proofs.Sessions.{not_left, bare_stepped, left}
use Rattle.dgn_moves.proofs.dgn_remove.Goals as goal

pub returns-then-out-lt2 : goal.returns-then-out-lt2
returns-then-out-lt2 c = not_left _ _ _ (c.if-out-lt2.true)

pub returns : goal.returns
returns c =
    left _ _ _ _ c.remove-answer.result _ _ _ none _ c.if-out-lt2.false (bare_stepped _ _ _ refl c.remove-answer.ensures)
    c.put_edited.ensures
