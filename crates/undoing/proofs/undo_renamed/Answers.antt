-- Two ways out, each a law of Reversals: refused by the number found, else the two old words are stored again.
use mathlib.Core.Path.{sym, ap, ◌∙◌}
use lib.Seq.{length-take-le}
use Rattle.words.proofs.Laws.{lent_below}
use Rattle.undoing.specs.Undoing.{back_number}
use Rattle.undoing.proofs.Reversals.{name_refused, name_done}
use Rattle.undoing.proofs.undo_renamed.Goals as goal

pub slice_bounds-reversible-end-2 : goal.slice_bounds-reversible-end-2
slice_bounds-reversible-end-2 c = sym (length-take-le _ _ (c.requires.open_file.within))

pub returns-then-number-ne0 : goal.returns-then-number-ne0
returns-then-number-ne0 c =
    rw c.refused.ensures
    (name_refused _ _ _ _ _ c.requires.open_file
    (lent_below c.args.file.now c.slice_known-1.given) _ _ _ c.requires.marker_value _ _
    c.ranges.first.fits c.ranges.second.fits _ c.name_bytes-payload.ensures _
    (c.back_fault-number.ensures ∙ ap (λ b. back_number b c.args.full) c.reversible-reverses.ensures) c.if-number-ne0.true)

pub slice_bounds-rename_cell-end-2 : goal.slice_bounds-rename_cell-end-2
slice_bounds-rename_cell-end-2 c =
    sym (length-take-le _ _ c.requires.open_file.within)

pub returns : goal.returns
returns c =
    name_done _ _ _ _ _ c.requires.open_file (lent_below c.args.file.now c.slice_known-1.given) _ _
    _ c.requires.marker_value _ _ c.ranges.first.fits c.ranges.second.fits _
    c.name_bytes-payload.ensures _
    (c.back_fault-number.ensures ∙ ap (λ b. back_number b c.args.full) c.reversible-reverses.ensures) c.if-number-ne0.false _
    c.rename_cell.ensures
