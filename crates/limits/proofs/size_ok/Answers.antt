-- An odd length makes the definition's first test false and an even one makes it true: what is left is the test that is returned.
use borrow.Author.Tests.{eq-eqb, ne_eqb}
use Rattle.limits.proofs.size_ok.Goals as goal

pub returns-then-size-ne0 : goal.returns-then-size-ne0
returns-then-size-ne0 c = rw (ne_eqb _ _ c.if-size-ne0.true)

pub returns : goal.returns
returns c = rw (eq-eqb _ _ c.if-size-ne0.false)
