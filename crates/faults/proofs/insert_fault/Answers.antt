-- Each step is one of the definition's, in its order: the header, the place, the piece, the room.
use mathlib.Core.Path.{sym, ap, ◌∙◌}
use Rattle.std.specs.Prelude.{Err}
use Rattle.std.proofs.lemmas.Result.{err_from_is_err_and}
use Rattle.refusals.proofs.Laws.{refusal_is}
use Rattle.words.proofs.Laws.{length_words}
use Rattle.faults.proofs.Inserting.{insert_absent, insert_elsewhere, insert_piece, insert_room}
use Rattle.faults.proofs.insert_fault.Goals as goal

pub returns-in_err-list : goal.returns-in_err-list
returns-in_err-list c =
    let p = err_from_is_err_and c.from_residual.result c.from_residual.ensures.1 in
    let none = c.in_err-list.ensures.ok_part in
    rw (p.1, p.2)
    (ap Err (refusal_is (rw none at c.in_err-list.ensures.value) ∙ c.refused.ensures) ∙ insert_absent _ _ _ _ _ _ _ (sym c.components_of.ensures ∙ none))

pub returns-then-not-gap_at : goal.returns-then-not-gap_at
returns-then-not-gap_at c =
    rw c.refused-then-not-gap_at.ensures
    (insert_elsewhere _ _ _ _ _ _ _ _ (sym c.components_of.ensures ∙ c.in_ok-list.ensures.ok_part) (sym c.gap_at.ensures ∙ c.if-not-gap_at.true))

pub returns-in_err-piece_fault : goal.returns-in_err-piece_fault
returns-in_err-piece_fault c =
    let p = err_from_is_err_and c.from_residual-in_err-piece_fault.result c.from_residual-in_err-piece_fault.ensures.1 in
    rw (p.1, p.2)
    (insert_piece _ _ _ _ _ _ _ _ (sym c.components_of.ensures ∙ c.in_ok-list.ensures.ok_part)
    (sym c.gap_at.ensures ∙ c.if-not-gap_at.false) _ (sym c.piece_fault.ensures ∙ c.in_err-piece_fault.was))

pub returns : goal.returns
returns c =
    c.room_under.ensures ∙ rw (← length_words c.args.piece.now)
    (insert_room _ _ _ _ _ _ _ _ (sym c.components_of.ensures ∙ c.in_ok-list.ensures.ok_part)
    (sym c.gap_at.ensures ∙ c.if-not-gap_at.false) (sym c.piece_fault.ensures ∙ c.in_ok-piece_fault.was))
