-- The two tests, one after the other.
use borrow.Author.Tests.{eq-eqb, ne_eqb}
use Rattle.order.proofs.none_fits.Goals as goal

pub returns-then-put-eq0 : goal.returns-then-put-eq0
returns-then-put-eq0 c = rw (eq-eqb _ 0 c.if-put-eq0.true)

pub returns : goal.returns
returns c = rw (ne_eqb _ 0 c.if-put-eq0.false)
