-- By the test of the type.
use mathlib.Core.Path.{refl}
use borrow.Author.Tests.{ne_eqb}
use Rattle.curves.proofs.axes_word.Goals as goal

pub returns-then-t-eq15 : goal.returns-then-t-eq15
returns-then-t-eq15 c = rw c.if-t-eq15.true refl

pub returns-else-t-eq15 : goal.returns-else-t-eq15
returns-else-t-eq15 c = rw (ne_eqb _ 15 c.if-t-eq15.false) refl
