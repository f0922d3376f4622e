-- Each test decides its part of the definition.
use mathlib.Core.Path.{ap}
use lib.Dec.{leb}
use borrow.Author.Tests.{eq-eqb, ne_eqb, lt-leb, le-leb}
use Rattle.fields.proofs.Bounds.{and_no, and_on}
use Rattle.write_answers.specs.Writing.{fields_given}
use Rattle.write_answers.proofs.fields_given.Goals as goal

pub returns-then-fields-ne16 : goal.returns-then-fields-ne16
unfolding fields_given
returns-then-fields-ne16 c = and_no _ (ne_eqb _ 16 c.if-fields-ne16.true)

pub returns-then-natural_at-gt1 : goal.returns-then-natural_at-gt1
unfolding fields_given
returns-then-natural_at-gt1 c = and_on (eq-eqb _ 16 c.if-fields-ne16.false) (and_no _ (lt-leb _ 1 (rw c.natural_at.ensures at c.if-natural_at-gt1.true)))

pub returns : goal.returns
unfolding fields_given
returns c =
    and_on (eq-eqb _ 16 c.if-fields-ne16.false)
    (and_on (le-leb _ 1 (rw c.natural_at.ensures at c.if-natural_at-gt1.false)) (ap (λ n. leb n 1) c.natural_at-2.ensures))
