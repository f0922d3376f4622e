-- Two ways out, each a law of Reversals: refused by the number found, else the old flags are written back.
use mathlib.Core.Path.{sym, ap, ◌∙◌}
use lib.Seq.{length-take-le}
use Rattle.words.proofs.Laws.{lent_below}
use Rattle.undoing.specs.Undoing.{back_number}
use Rattle.undoing.proofs.Reversals.{flag_refused, flag_done}
use Rattle.undoing.proofs.undo_flag.Goals as goal

pub slice_bounds-reversible-end-2 : goal.slice_bounds-reversible-end-2
slice_bounds-reversible-end-2 c = sym (length-take-le _ _ c.requires.open_file.within)

pub returns-then-number-ne0 : goal.returns-then-number-ne0
returns-then-number-ne0 c =
    rw c.refused.ensures
    (flag_refused _ _ _ _ _ c.requires.open_file (lent_below c.args.file.now c.slice_known-1.given) _ _
    _ c.requires.marker_value _ _ (c.back_fault-number.ensures ∙ ap (λ b. back_number b c.args.full) c.reversible-reverses.ensures) c.if-number-ne0.true)

pub slice_bounds-restore-end-2 : goal.slice_bounds-restore-end-2
slice_bounds-restore-end-2 c =
    sym (length-take-le _ _ c.requires.open_file.within)

pub returns : goal.returns
returns c =
    flag_done _ _ _ _ _ c.requires.open_file (lent_below c.args.file.now c.slice_known-1.given) _ _ _
    c.requires.marker_value _ _ (c.back_fault-number.ensures ∙ ap (λ b. back_number b c.args.full) c.reversible-reverses.ensures) c.if-number-ne0.false _ _
    c.end_of.ensures c.restore.ensures
