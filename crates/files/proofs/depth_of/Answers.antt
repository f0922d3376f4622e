-- The test decides which of the two depths it is.
use mathlib.Core.Path.{refl}
use borrow.Author.Tests.{eq-eqb, ne_eqb}
use Rattle.files.proofs.depth_of.Goals as goal

pub returns-then-direct-eq0 : goal.returns-then-direct-eq0
returns-then-direct-eq0 c = rw (eq-eqb _ 0 c.if-direct-eq0.true) refl

pub returns : goal.returns
returns c = rw (ne_eqb _ 0 c.if-direct-eq0.false) c.larger.ensures
