-- Dimension 2 makes the definition's first test true; any other makes it false and leaves the test for 3, which is returned.
use borrow.Author.Tests.{eq-eqb, ne_eqb}
use Rattle.limits.proofs.dim_ok.Goals as goal

pub returns-then-dim-eq2 : goal.returns-then-dim-eq2
returns-then-dim-eq2 c = rw (eq-eqb _ _ c.if-dim-eq2.true)

pub returns-else-dim-eq2 : goal.returns-else-dim-eq2
returns-else-dim-eq2 c = rw (ne_eqb _ _ c.if-dim-eq2.false)
