-- The test for the top's number decides which of the two headers the definition gives.
use borrow.Author.Tests.{eq-eqb, ne_eqb}
use Rattle.opening.proofs.header_at.Goals as goal

pub returns-then-number-eq-TOP : goal.returns-then-number-eq-TOP
returns-then-number-eq-TOP c = rw (eq-eqb _ _ (c.if-number-eq-TOP.true))

pub returns : goal.returns
returns c = rw (ne_eqb _ _ (c.if-number-eq-TOP.false))
