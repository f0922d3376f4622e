-- The three comparisons are the definition's, in its order (`and_no`, `and_on`).
use mathlib.Core.Path.{refl}
use borrow.Author.Tests.{le-leb, lt-leb}
use Rattle.fields.proofs.Bounds.{and_no, and_on}
use Rattle.text_fields.proofs.bytes_ok.Goals as goal

pub returns-then-text-gt255 : goal.returns-then-text-gt255
returns-then-text-gt255 c = and_no _ (lt-leb _ _ c.if-text-gt255.true)

pub returns-then-text-gt255-2 : goal.returns-then-text-gt255-2
returns-then-text-gt255-2 c = and_on (le-leb _ _ c.if-text-gt255.false) (and_no _ (lt-leb _ _ c.if-text-gt255-2.true))

pub returns-then-text-gt255-3 : goal.returns-then-text-gt255-3
returns-then-text-gt255-3 c = and_on (le-leb _ _ c.if-text-gt255.false) (and_on (le-leb _ _ c.if-text-gt255-2.false) (and_no _ (lt-leb _ _ c.if-text-gt255-3.true)))

pub returns : goal.returns
returns c = and_on (le-leb _ _ c.if-text-gt255.false) (and_on (le-leb _ _ c.if-text-gt255-2.false) (and_on (le-leb _ _ c.if-text-gt255-3.false) (refl)))
