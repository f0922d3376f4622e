-- The test of the number of bytes decides which part of the definition is left.
use mathlib.Core.Path.{refl}
use borrow.Author.Tests.{eq-eqb, ne_eqb}
use Rattle.text_fields.specs.Faults.{odd_ok}
use Rattle.text_fields.proofs.odd_ok.Goals as goal

pub returns-then-n-eq1 : goal.returns-then-n-eq1
unfolding odd_ok
returns-then-n-eq1 c = rw (eq-eqb _ 1 c.if-n-eq1.true) refl

pub returns : goal.returns
unfolding odd_ok
returns c = rw (ne_eqb _ 1 c.if-n-eq1.false) refl
