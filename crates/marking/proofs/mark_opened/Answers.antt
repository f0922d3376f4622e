-- Three ways out, each a law of Ways: the fault found is the refusal, a journal without room for the record is 16, else the
-- old flags are packed behind the journal while the new ones are set, and the six words go behind them.
use mathlib.Core.Path.{sym, ap, ◌∙◌}
use lib.Seq.{length-take-le}
use Rattle.words.proofs.Laws.{lent_below}
use Rattle.edits.specs.Bits.{flag_size}
use Rattle.opening.proofs.OpenSession.{used_within, jused_within}
use Rattle.marking.proofs.Ways.{mark_refused, mark_full, mark_done}
use Rattle.marking.proofs.mark_opened.Goals as goal

pub slice_bounds-mark_fault-end : goal.slice_bounds-mark_fault-end
slice_bounds-mark_fault-end c = used_within c.requires

pub slice_bounds-mark_fault-end-2 : goal.slice_bounds-mark_fault-end-2
slice_bounds-mark_fault-end-2 c = sym (length-take-le _ _ (used_within c.requires))

pub returns-then-number-ne0 : goal.returns-then-number-ne0
returns-then-number-ne0 c =
    rw c.refused.ensures
    (mark_refused _ _ _ _ _ _ _ c.requires (lent_below c.args.file.now c.slice_known-1.given) _
    _ c.mark_fault-number.ensures c.if-number-ne0.true)

pub slice_bounds-count-end : goal.slice_bounds-count-end
slice_bounds-count-end c =
    used_within c.requires

pub slice_bounds-count-end-2 : goal.slice_bounds-count-end-2
slice_bounds-count-end-2 c =
    sym (length-take-le _ _ (used_within c.requires))

pub overflow_sub-journal : goal.overflow_sub-journal
overflow_sub-journal c =
    jused_within c.requires

pub returns-then-journal-jused : goal.returns-then-journal-jused
returns-then-journal-jused c =
    rw c.refused-then-journal-jused.ensures
    (mark_full _ _ _ _ _ _ _ c.requires (lent_below c.args.file.now c.slice_known-1.given) _ _
    c.mark_fault-number.ensures c.if-number-ne0.false _ _ c.end_of-end.ensures
    (c.flag_size-n.ensures ∙ ap flag_size c.count.ensures) c.if-journal-jused.true)

pub slice_bounds-mark-end : goal.slice_bounds-mark-end
slice_bounds-mark-end c =
    used_within c.requires

pub slice_bounds-mark-end-2 : goal.slice_bounds-mark-end-2
slice_bounds-mark-end-2 c =
    sym (length-take-le _ _ (used_within c.requires))

pub returns : goal.returns
returns c =
    mark_done _ _ _ _ _ _ _ c.requires (lent_below c.args.file.now c.slice_known-1.given) _ _
    c.mark_fault-number.ensures c.if-number-ne0.false _ _ c.end_of-end.ensures
    (c.flag_size-n.ensures ∙ ap flag_size c.count.ensures) c.if-journal-jused.false
    _ _ _ c.mark.ensures.bytes c.mark.ensures.old c.put_six.ensures
