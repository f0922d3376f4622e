-- The type read is the definition's, and is compared with 1, then 2.
use mathlib.Core.Bool.{or-false}
use borrow.Author.Tests.{eq-eqb, ne_eqb}
use Rattle.cells.proofs.is_cell.Goals as goal

pub returns-then-t-eq1 : goal.returns-then-t-eq1
returns-then-t-eq1 c = rw (← c.type_at-t.ensures, eq-eqb _ _ c.if-t-eq1.true)

pub returns : goal.returns
returns c = rw (← c.type_at-t.ensures, ne_eqb _ _ c.if-t-eq1.false, or-false)
