-- Four ways out, each a law of Ways: the fault found is the refusal, a file buffer without room for the piece is 15, a journal
-- without room for the record is 16, else the piece goes in and the record is pushed.
use mathlib.Core.Path.{sym, ◌∙◌}
use lib.Seq.{length-take-le}
use Rattle.std.proofs.lemmas.Result.{err_from_is_err_and}
use Rattle.words.specs.Words.{Below}
use Rattle.words.proofs.Laws.{lent_below}
use Rattle.opening.proofs.OpenSession.{used_within, jused_within}
use Rattle.moving.proofs.Ways.{refused_as, fine_of, insert_refused, insert_room, insert_full, insert_done}
use Rattle.moving.proofs.insert_opened.Goals as goal
use Rattle.moving.proofs.insert_opened.Goals.{After-insert_fault}

pub slice_bounds-insert_fault-end : goal.slice_bounds-insert_fault-end
slice_bounds-insert_fault-end c = used_within (c.requires.fact)

pub slice_bounds-insert_fault-end-2 : goal.slice_bounds-insert_fault-end-2
slice_bounds-insert_fault-end-2 c = sym (length-take-le _ _ (used_within (c.requires.fact)))

-- the bytes of the file and of the piece
below : (c : After-insert_fault) → Below 256 c.args.file.now
below c = lent_below c.args.file.now c.slice_known-1.given

piece_below : (c : After-insert_fault) → Below 256 c.args.piece.now
piece_below c = lent_below c.args.piece.now c.type_inv.piece

pub overflow_sub-file : goal.overflow_sub-file
overflow_sub-file c =
    used_within c.requires.fact

pub returns-then-file-used : goal.returns-then-file-used
returns-then-file-used c =
    rw c.refused.ensures
    (insert_room _ _ _ _ _ _ _ c.requires.fact (below (goal.at.returns-then-file-used c).After-insert_fault) _ c.requires.marker_value _ _
    (piece_below (goal.at.returns-then-file-used c).After-insert_fault) c.requires.piece_value
    (fine_of _ (sym c.insert_fault.ensures ∙ c.in_ok-insert_fault.was))
    c.if-file-used.true)

pub overflow_sub-journal : goal.overflow_sub-journal
overflow_sub-journal c =
    jused_within c.requires.fact

pub returns-then-journal-jused-lt12 : goal.returns-then-journal-jused-lt12
returns-then-journal-jused-lt12 c =
    rw c.refused-then-journal-jused-lt12.ensures
    (insert_full _ _ _ _ _ _ _ c.requires.fact (below (goal.at.returns-then-journal-jused-lt12 c).After-insert_fault) _ c.requires.marker_value _ _
    (piece_below (goal.at.returns-then-journal-jused-lt12 c).After-insert_fault) c.requires.piece_value
    (fine_of _ (sym c.insert_fault.ensures ∙ c.in_ok-insert_fault.was))
    c.if-file-used.false c.if-journal-jused-lt12.true)

pub returns-in_err-insert_fault : goal.returns-in_err-insert_fault
returns-in_err-insert_fault c =
    let at = (goal.at.returns-in_err-insert_fault c).After-insert_fault in
    let p = err_from_is_err_and c.from_residual.result c.from_residual.ensures.1 in
    rw (p.1, p.2)
    (insert_refused _ _ _ _ _ _ _ c.requires.fact (below at) _ c.requires.marker_value _ _
    (piece_below at) c.requires.piece_value _ _
    (refused_as _ _ (sym c.insert_fault.ensures ∙ c.in_err-insert_fault.was)))

pub returns : goal.returns
returns c =
    insert_done _ _ _ _ _ _ _ c.requires.fact (below (goal.at.returns c).After-insert_fault) _ c.requires.marker_value _ _
    (piece_below (goal.at.returns c).After-insert_fault) c.requires.piece_value
    (fine_of _ (sym c.insert_fault.ensures ∙ c.in_ok-insert_fault.was))
    c.if-file-used.false c.if-journal-jused-lt12.false _ _ _ c.insert_piece.ensures
    c.header_number.ensures c.push.ensures
