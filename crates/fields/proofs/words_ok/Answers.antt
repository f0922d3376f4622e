-- The three comparisons are the definition's, in its order (`and_no`, `and_on`).
use mathlib.Core.Path.{refl}
use borrow.Author.Tests.{le-leb, lt-leb}
use Rattle.fields.proofs.Bounds.{and_no, and_on}
use Rattle.fields.proofs.words_ok.Goals as goal

pub returns-then-fields-gt65535 : goal.returns-then-fields-gt65535
returns-then-fields-gt65535 c = and_no _ (lt-leb _ _ (c.if-fields-gt65535.true))

pub returns-then-fields-gt65535-2 : goal.returns-then-fields-gt65535-2
returns-then-fields-gt65535-2 c = and_on (le-leb _ _ (c.if-fields-gt65535.false)) (and_no _ (lt-leb _ _ (c.if-fields-gt65535-2.true)))

pub returns-then-fields-gt65535-3 : goal.returns-then-fields-gt65535-3
returns-then-fields-gt65535-3 c = and_on (le-leb _ _ (c.if-fields-gt65535.false)) (and_on (le-leb _ _ (c.if-fields-gt65535-2.false)) (and_no _ (lt-leb _ _ (c.if-fields-gt65535-3.true))))

pub returns : goal.returns
returns c = and_on (le-leb _ _ (c.if-fields-gt65535.false)) (and_on (le-leb _ _ (c.if-fields-gt65535-2.false)) (and_on (le-leb _ _ (c.if-fields-gt65535-3.false)) (refl)))
