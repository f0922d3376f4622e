-- The top's number, or a place.
use borrow.Author.Tests.{eq-eqb, ne_eqb}
use Rattle.edit_answers.proofs.header_given.Goals as goal

pub returns-then-header-eq-TOP : goal.returns-then-header-eq-TOP
returns-then-header-eq-TOP c = rw (eq-eqb _ 18446744073709551615 c.if-header-eq-TOP.true)

pub returns : goal.returns
returns c = rw (ne_eqb _ 18446744073709551615 c.if-header-eq-TOP.false)
