-- By the dimension.
use borrow.Author.Tests.{eq-eqb, ne_eqb}
use Rattle.range_checks.proofs.point_words.Goals as goal

pub returns-then-dim-eq2 : goal.returns-then-dim-eq2
returns-then-dim-eq2 c = rw (eq-eqb _ 2 c.if-dim-eq2.true)

pub returns-else-dim-eq2 : goal.returns-else-dim-eq2
returns-else-dim-eq2 c = rw (ne_eqb _ 2 c.if-dim-eq2.false)
