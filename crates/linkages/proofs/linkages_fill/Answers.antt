-- The loop's invariant is a continuation: every answer of the words from `here` on is the answer of the words from `at` on.
-- The measure is the words left.
use native.Mathlib.Omega.{arith}
use Rattle.linkages.specs.Linkages.{linkages_fill}
use Rattle.linkages.proofs.Laws.{fitting_none, fitting_some, fill_end, fill_stops, fill_on}
use Rattle.linkages.proofs.linkages_fill.Goals as goal

pub loop-here-init : goal.loop-here-init
loop-here-init c = λ r i. i

pub returns-then-n-eq0 : goal.returns-then-n-eq0
unfolding linkages_fill
returns-then-n-eq0 c = c.loop-here.invariant _ (fill_stops _ _ _ c.loop-here-test.true (fitting_none _ _ _ _ c.fitting_words-n.ensures c.if-n-eq0.true)) _ (omega arith)

pub overflow_add-here : goal.overflow_add-here
overflow_add-here c = omega (arith, fitting_some _ _ _ _ c.fitting_words-n.ensures c.if-n-eq0.false)

pub loop-here-smaller : goal.loop-here-smaller
loop-here-smaller c = omega (arith, fitting_some _ _ _ _ c.fitting_words-n.ensures c.if-n-eq0.false)

pub loop-here-preserved : goal.loop-here-preserved
loop-here-preserved c = λ r i. c.loop-here.invariant r (fill_on _ _ _ _ r c.loop-here-test.true (fitting_some _ _ _ _ c.fitting_words-n.ensures c.if-n-eq0.false) i)

pub returns : goal.returns
unfolding linkages_fill
returns c = c.loop-here.invariant _ (fill_end _ _ _ c.loop-here-test.false) _ (omega arith)
