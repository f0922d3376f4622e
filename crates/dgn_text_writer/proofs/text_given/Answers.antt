-- The tests are the definition's, in its order (`and_no`, `and_on`); a number that is read is the slice's (`back`).
use mathlib.Core.Path.{sym, ap, ◌∙◌}
use borrow.Author.Tests.{eq-eqb, ne_eqb}
use Rattle.fields.proofs.Bounds.{and_no, and_on}
use Rattle.ranges.specs.Ranges.{is_coordinate}
use Rattle.write_answers.specs.Writing.{number_at}
use Rattle.write_answers.proofs.Numbers.{back}
use Rattle.dgn_text_writer.specs.Writing.{text_given}
use Rattle.dgn_text_writer.proofs.text_given.Goals as goal

pub returns-then-text-ne12 : goal.returns-then-text-ne12
unfolding text_given
returns-then-text-ne12 c = and_no _ (ne_eqb _ _ c.if-text-ne12.true)

pub returns-then-not-is_coordinate : goal.returns-then-not-is_coordinate
unfolding text_given
returns-then-not-is_coordinate c =
    and_on (eq-eqb _ _ c.if-text-ne12.false)
    (and_no _ (sym (c.is_coordinate.ensures ∙ ap is_coordinate (back (number_at c.args.text.now 8) (record { sfits = c.is_coordinate-arg-1.given }))) ∙ c.if-not-is_coordinate.true))

pub returns-then-not-is_coordinate-2 : goal.returns-then-not-is_coordinate-2
unfolding text_given
returns-then-not-is_coordinate-2 c =
    and_on (eq-eqb _ _ c.if-text-ne12.false)
    (and_on (sym (c.is_coordinate.ensures ∙ ap is_coordinate (back (number_at c.args.text.now 8) (record { sfits = c.is_coordinate-arg-1.given }))) ∙ c.if-not-is_coordinate.false)
    (and_no _ (sym (c.is_coordinate-2.ensures ∙ ap is_coordinate (back (number_at c.args.text.now 9) (record { sfits = c.is_coordinate-arg-2-1.given }))) ∙ c.if-not-is_coordinate-2.true)))

pub returns : goal.returns
unfolding text_given
returns c =
    and_on (eq-eqb _ _ c.if-text-ne12.false)
    (and_on (sym (c.is_coordinate.ensures ∙ ap is_coordinate (back (number_at c.args.text.now 8) (record { sfits = c.is_coordinate-arg-1.given }))) ∙ c.if-not-is_coordinate.false)
    (and_on (sym (c.is_coordinate-2.ensures ∙ ap is_coordinate (back (number_at c.args.text.now 9) (record { sfits = c.is_coordinate-arg-2-1.given }))) ∙ c.if-not-is_coordinate-2.false)
    ((c.is_coordinate-3.ensures ∙ ap is_coordinate (back (number_at c.args.text.now 10) (record { sfits = c.is_coordinate-arg-3-1.given }))))))
