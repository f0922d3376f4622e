-- In 2D the comparisons are the definition's, in its order (`and_no`, `and_on`); z is 0 where its long is (`zero_long`).
use borrow.Author.Tests.{le-leb, lt-leb, eq-eqb, ne_eqb}
use Rattle.fields.proofs.Bounds.{and_no, and_on}
use Rattle.text_fields.specs.Faults.{flat_ok}
use Rattle.text_fields.proofs.Bounds.{zero_long}
use Rattle.text_fields.proofs.flat_ok.Goals as goal

pub returns-then-dim-ne2 : goal.returns-then-dim-ne2
unfolding flat_ok
returns-then-dim-ne2 c = simp (ne_eqb _ 2 c.if-dim-ne2.true)

pub returns-then-text-gt0 : goal.returns-then-text-gt0
unfolding flat_ok
returns-then-text-gt0 c = rw (eq-eqb _ 2 c.if-dim-ne2.false) (and_no _ (lt-leb _ _ c.if-text-gt0.true))

pub returns-then-text-gt0-2 : goal.returns-then-text-gt0-2
unfolding flat_ok
returns-then-text-gt0-2 c = rw (eq-eqb _ 2 c.if-dim-ne2.false) (and_on (le-leb _ _ c.if-text-gt0.false) (and_no _ (lt-leb _ _ c.if-text-gt0-2.true)))

pub returns-then-text-gt0-3 : goal.returns-then-text-gt0-3
unfolding flat_ok
returns-then-text-gt0-3 c =
    rw (eq-eqb _ 2 c.if-dim-ne2.false) (and_on (le-leb _ _ c.if-text-gt0.false) (and_on (le-leb _ _ c.if-text-gt0-2.false) (and_no _ (lt-leb _ _ c.if-text-gt0-3.true))))

pub returns : goal.returns
unfolding flat_ok
returns c =
    rw (eq-eqb _ 2 c.if-dim-ne2.false) (and_on (le-leb _ _ c.if-text-gt0.false) (and_on (le-leb _ _ c.if-text-gt0-2.false) (and_on (le-leb _ _ c.if-text-gt0-3.false) (zero_long (c.args.text.z)))))
