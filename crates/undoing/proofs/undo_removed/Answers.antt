-- Three ways out, each a law of Reversals: refused by the number found, a file buffer without room for the removed words is 15,
-- else they go in again.
use mathlib.Core.Path.{sym, ap, ◌∙◌}
use lib.Seq.{length-take-le}
use Rattle.words.specs.Words.{Below}
use Rattle.words.proofs.Laws.{lent_below}
use Rattle.undoing.specs.Undoing.{back_number}
use Rattle.undoing.proofs.Reversals.{out_refused, out_room, out_done}
use Rattle.undoing.proofs.undo_removed.Goals as goal
use Rattle.undoing.proofs.undo_removed.Goals.{After-header_at-above}

pub slice_bounds-reversible-end-2 : goal.slice_bounds-reversible-end-2
slice_bounds-reversible-end-2 c = sym (length-take-le _ _ (c.requires.open_file.within))

-- the file's bytes
below : (c : After-header_at-above) → Below 256 c.args.file.now
below c = lent_below c.args.file.now c.slice_known-1.given

pub returns-then-number-ne0 : goal.returns-then-number-ne0
returns-then-number-ne0 c =
    rw c.refused.ensures
    (out_refused _ _ _ _ _ c.requires.open_file (below (goal.at.returns-then-number-ne0 c).After-header_at-above) _ _ _ c.requires.marker_value
    c.args.header c.args.piece.now c.requires.piece_len _
    c.header_at-above.ensures _
    (c.back_fault-number.ensures ∙ ap (λ b. back_number b c.args.full) c.reversible-reverses.ensures) c.if-number-ne0.true)

pub returns-then-file-used : goal.returns-then-file-used
returns-then-file-used c =
    rw c.refused-then-file-used.ensures
    (out_room _ _ _ _ _ c.requires.open_file (below (goal.at.returns-then-file-used c).After-header_at-above) _ _ _ c.requires.marker_value
    c.args.header c.args.piece.now c.requires.piece_len _
    c.header_at-above.ensures _
    (c.back_fault-number.ensures ∙ ap (λ b. back_number b c.args.full) c.reversible-reverses.ensures)
    c.if-number-ne0.false c.if-file-used.true)

pub returns : goal.returns
returns c =
    out_done _ _ _ _ _ c.requires.open_file (below (goal.at.returns c).After-header_at-above) _ _ _ c.requires.marker_value
    c.args.header c.args.piece.now c.requires.piece_len _
    c.header_at-above.ensures _
    (c.back_fault-number.ensures ∙ ap (λ b. back_number b c.args.full) c.reversible-reverses.ensures)
    c.if-number-ne0.false
    c.if-file-used.false _ c.insert_piece.ensures
