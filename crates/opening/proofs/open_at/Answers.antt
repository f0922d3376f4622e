-- Where the buffers are right the used part is judged; else the answer is 1, whatever the journal holds.
use mathlib.Core.Path.{sym, ◌∙◌}
use lib.Seq.{length-take-le}
use Rattle.opening.proofs.Opening.{part_true, open_refused, open_judged}
use Rattle.opening.proofs.open_at.Goals as goal

pub slice_bounds-open_file-end : goal.slice_bounds-open_file-end
slice_bounds-open_file-end c =
    sym
    (length-take-le _ _
    (part_true c.args.dim c.args.file.now c.args.used c.args.journal_len
    c.args.jused (sym c.buffers_ok.ensures ∙ c.if-not-buffers_ok.false)).within)

pub open_file-requires : goal.open_file-requires
open_file-requires c =
    let p = part_true c.args.dim c.args.file.now c.args.used c.args.journal_len
    c.args.jused (sym c.buffers_ok.ensures ∙ c.if-not-buffers_ok.false) in
    (p.even, (p.two, p.small))

pub returns-then-not-buffers_ok : goal.returns-then-not-buffers_ok
returns-then-not-buffers_ok c = λ journal e. rw c.refused.ensures (open_refused _ _ _ _ _ _ journal e (sym c.buffers_ok.ensures ∙ c.if-not-buffers_ok.true))

pub returns : goal.returns
returns c = λ journal e. open_judged _ _ _ _ _ _ journal e (sym c.buffers_ok.ensures ∙ c.if-not-buffers_ok.false) _ c.open_file.ensures
