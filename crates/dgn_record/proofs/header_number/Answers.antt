-- The long of the top, or a place.
use borrow.Author.Tests.{eq-eqb, ne_eqb}
use Rattle.dgn_record.proofs.header_number.Goals as goal

pub returns-then-long-eq-TOP : goal.returns-then-long-eq-TOP
returns-then-long-eq-TOP c = rw (eq-eqb _ 4294967295 c.if-long-eq-TOP.true)

pub returns : goal.returns
returns c = rw (ne_eqb _ 4294967295 c.if-long-eq-TOP.false)
