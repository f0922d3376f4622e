-- The three comparisons are the definition's, in its order (`and_no`, `and_on`).
use mathlib.Core.Path.{sym}
use borrow.Author.Tests.{le-leb, lt-leb}
use Rattle.fields.proofs.Bounds.{and_no, and_on}
use Rattle.fields.proofs.symbology_ok.Goals as goal

pub returns-then-fields-gt7 : goal.returns-then-fields-gt7
returns-then-fields-gt7 c = and_no _ (lt-leb _ _ (c.if-fields-gt7.true))

pub returns-then-fields-gt31 : goal.returns-then-fields-gt31
returns-then-fields-gt31 c = and_on (le-leb _ _ (c.if-fields-gt7.false)) (and_no _ (lt-leb _ _ (c.if-fields-gt31.true)))

pub returns-then-fields-gt255 : goal.returns-then-fields-gt255
returns-then-fields-gt255 c = and_on (le-leb _ _ (c.if-fields-gt7.false)) (and_on (le-leb _ _ (c.if-fields-gt31.false)) (sym (lt-leb _ _ (c.if-fields-gt255.true))))

pub returns : goal.returns
returns c = and_on (le-leb _ _ (c.if-fields-gt7.false)) (and_on (le-leb _ _ (c.if-fields-gt31.false)) (sym (le-leb _ _ (c.if-fields-gt255.false))))
