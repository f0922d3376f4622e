-- The type decides as in `point_count`; where no word stands it is 0.
use mathlib.Core.Path.{sym, ap, ◌∙◌}
use borrow.Author.Tests.{eq-eqb, ne_eqb}
use Rattle.kinds.specs.Kinds.{is_pointed}
use Rattle.points_linkages.proofs.Numbered.{count_out}
use Rattle.points_linkages.proofs.points.point_count.Goals as goal

pub returns-then-t-eq3 : goal.returns-then-t-eq3
returns-then-t-eq3 c = rw (eq-eqb _ 3 (sym c.type_at-t.ensures ∙ c.if-t-eq3.true))

pub returns-then-file-at : goal.returns-then-file-at
returns-then-file-at c = count_out c.args.file.now c.args.at c.if-file-at.true

pub returns-then-is_pointed : goal.returns-then-is_pointed
returns-then-is_pointed c =
    let type_is = c.type_at-t.ensures in
    rw (ne_eqb _ 3 (rw type_is at c.if-t-eq3.false), ap is_pointed (sym type_is) ∙ sym c.is_pointed.ensures ∙ c.if-is_pointed.true) c.word.ensures.is

pub returns : goal.returns
returns c =
    let type_is = c.type_at-t.ensures in
    rw (ne_eqb _ 3 (rw type_is at c.if-t-eq3.false), ap is_pointed (sym type_is) ∙ sym c.is_pointed.ensures ∙ c.if-is_pointed.false)
