-- Each test decides its part of the definition (`one_not`, `one_else`); where all pass, linkages fill the part or not.
use borrow.Author.Tests.{le-leb, lt-leb}
use Rattle.fields.specs.Faults.{tail_ok}
use Rattle.fields.proofs.Bounds.{one_not, one_else}
use Rattle.fields.proofs.tail_ok.Goals as goal

pub returns-then-fields-eq0 : goal.returns-then-fields-eq0
unfolding tail_ok
returns-then-fields-eq0 c = simp (one_not _ c.if-fields-eq0.true)

pub returns-then-fields-first : goal.returns-then-fields-first
unfolding tail_ok
returns-then-fields-first c = simp (one_else _ c.if-fields-eq0.false, lt-leb _ _ c.if-fields-first.true)

pub returns-then-end-fields : goal.returns-then-end-fields
unfolding tail_ok
returns-then-end-fields c = simp (one_else _ c.if-fields-eq0.false, le-leb _ _ c.if-fields-first.false, lt-leb _ _ c.if-end-fields.true)

pub returns : goal.returns
unfolding tail_ok
returns c =
    simp (one_else _ c.if-fields-eq0.false, le-leb _ _ c.if-fields-first.false, le-leb _ _ c.if-end-fields.false) c.linkages_fill.ensures
