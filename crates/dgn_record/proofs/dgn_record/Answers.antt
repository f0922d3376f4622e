-- Too short a slice, each refusal in its order, or the last record of the used bytes.
use mathlib.Core.Path.{sym, ◌∙◌}
use lib.Seq.{length-take-le}
use Rattle.std.specs.Prelude.{None, Some}
use Rattle.edits.proofs.Tested.{used_parts}
use Rattle.answers.proofs.Laws.{too_short, answered}
use Rattle.dgn_record.proofs.LastRecord.{not_lent, nothing_used, record_read}
use Rattle.dgn_record.proofs.dgn_record.Goals as goal

pub returns-then-out-lt5 : goal.returns-then-out-lt5
returns-then-out-lt5 c = too_short 5 _ c.args.out.now c.if-out-lt5.true

pub returns-then-not-used_ok : goal.returns-then-not-used_ok
returns-then-not-used_ok c =
    answered 5 _ _ c.args.out.now (not_lent c.args.journal.now _ (sym c.used_ok.ensures ∙ c.if-not-used_ok.true)) c.if-out-lt5.false

pub returns-then-jused-eq0 : goal.returns-then-jused-eq0
returns-then-jused-eq0 c =
    answered 5 _ _ c.args.out.now
    (nothing_used c.args.journal.now _ (sym c.used_ok.ensures ∙ c.if-not-used_ok.false) c.if-jused-eq0.true) c.if-out-lt5.false

pub slice_bounds-last_record-end : goal.slice_bounds-last_record-end
slice_bounds-last_record-end c =
    sym (length-take-le _ _ (used_parts _ _ (sym c.used_ok.ensures ∙ c.if-not-used_ok.false)).within)

pub returns-in_default : goal.returns-in_default
returns-in_default c =
    answered 5 _ _ c.args.out.now
    (record_read c.args.journal.now _ None (sym c.used_ok.ensures ∙ c.if-not-used_ok.false) c.if-jused-eq0.false c.in_default.ensures) c.if-out-lt5.false

pub returns : goal.returns
returns c =
    rw (record_read c.args.journal.now _ (Some c.in-Some.last) (sym c.used_ok.ensures ∙ c.if-not-used_ok.false) c.if-jused-eq0.false c.in-Some.ensures)
    c.put_last.ensures
