-- The six comparisons are the definition's, in its order (`and_no`, `and_on`).
use mathlib.Core.Path.{refl}
use borrow.Author.Tests.{le-leb, lt-leb}
use Rattle.fields.proofs.Bounds.{and_no, and_on}
use Rattle.text_fields.proofs.longs_ok.Goals as goal

pub returns-then-text-gt4294967295 : goal.returns-then-text-gt4294967295
returns-then-text-gt4294967295 c = and_no _ (lt-leb _ _ c.if-text-gt4294967295.true)

pub returns-then-text-gt4294967295-2 : goal.returns-then-text-gt4294967295-2
returns-then-text-gt4294967295-2 c = and_on (le-leb _ _ c.if-text-gt4294967295.false) (and_no _ (lt-leb _ _ c.if-text-gt4294967295-2.true))

pub returns-then-text-gt4294967295-3 : goal.returns-then-text-gt4294967295-3
returns-then-text-gt4294967295-3 c = and_on (le-leb _ _ c.if-text-gt4294967295.false) (and_on (le-leb _ _ c.if-text-gt4294967295-2.false) (and_no _ (lt-leb _ _ c.if-text-gt4294967295-3.true)))

pub returns-then-text-gt4294967295-4 : goal.returns-then-text-gt4294967295-4
returns-then-text-gt4294967295-4 c =
    and_on (le-leb _ _ c.if-text-gt4294967295.false) (and_on (le-leb _ _ c.if-text-gt4294967295-2.false) (and_on (le-leb _ _ c.if-text-gt4294967295-3.false) (and_no _ (lt-leb _ _ c.if-text-gt4294967295-4.true))))

pub returns-then-text-gt4294967295-5 : goal.returns-then-text-gt4294967295-5
returns-then-text-gt4294967295-5 c =
    and_on (le-leb _ _ c.if-text-gt4294967295.false) (and_on (le-leb _ _ c.if-text-gt4294967295-2.false) (and_on (le-leb _ _ c.if-text-gt4294967295-3.false) (and_on (le-leb _ _ c.if-text-gt4294967295-4.false) (and_no _ (lt-leb _ _ c.if-text-gt4294967295-5.true)))))

pub returns-then-text-gt4294967295-6 : goal.returns-then-text-gt4294967295-6
returns-then-text-gt4294967295-6 c =
    and_on (le-leb _ _ c.if-text-gt4294967295.false) (and_on (le-leb _ _ c.if-text-gt4294967295-2.false) (and_on (le-leb _ _ c.if-text-gt4294967295-3.false) (and_on (le-leb _ _ c.if-text-gt4294967295-4.false) (and_on (le-leb _ _ c.if-text-gt4294967295-5.false) (and_no _ (lt-leb _ _ c.if-text-gt4294967295-6.true))))))

pub returns : goal.returns
returns c =
    and_on (le-leb _ _ c.if-text-gt4294967295.false) (and_on (le-leb _ _ c.if-text-gt4294967295-2.false) (and_on (le-leb _ _ c.if-text-gt4294967295-3.false) (and_on (le-leb _ _ c.if-text-gt4294967295-4.false) (and_on (le-leb _ _ c.if-text-gt4294967295-5.false) (and_on (le-leb _ _ c.if-text-gt4294967295-6.false) (refl))))))
