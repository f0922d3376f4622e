-- The test of the type is that of `before_points`.
use mathlib.Core.Path.{sym, ◌∙◌}
use borrow.Author.Tests.{eq-eqb, ne_eqb}
use Rattle.points_linkages.proofs.points.before_points.Goals as goal

pub returns-then-type_at-eq3 : goal.returns-then-type_at-eq3
returns-then-type_at-eq3 c = rw (eq-eqb _ 3 (sym c.type_at.ensures ∙ c.if-type_at-eq3.true))

pub returns : goal.returns
returns c = rw (ne_eqb _ 3 (rw c.type_at.ensures at c.if-type_at-eq3.false))
