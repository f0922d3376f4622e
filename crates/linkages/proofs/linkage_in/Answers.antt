-- The loop's invariant is a continuation: every answer of the walk from `here` on, with the linkages not yet passed, is the answer
-- of the walk from `at` on to linkage k.
use Prim.Native.Nat.{◌+◌, ◌-◌}
use mathlib.Core.Path.{◌≡◌, ◌∙◌}
use native.Mathlib.Omega.{arith}
use Rattle.linkages.specs.Linkages.{linkage_in}
use Rattle.linkages.proofs.Laws.{fitting_none, fitting_some, walk_stops, walk_here, walk_on}
use Rattle.linkages.proofs.linkage_in.Goals as goal

pub loop-init : goal.loop-init
loop-init c = λ r i. let e : c.args.k - 0 ≡ c.args.k = omega arith in rw e at i

pub returns-then-n-eq0 : goal.returns-then-n-eq0
unfolding linkage_in
returns-then-n-eq0 c = c.loop.invariant _ (walk_stops _ _ _ _ (fitting_none _ _ _ _ c.fitting_words-n.ensures c.if-n-eq0.true)) _ (omega arith)

pub overflow_add-here : goal.overflow_add-here
overflow_add-here c = omega (arith, fitting_some _ _ _ _ c.fitting_words-n.ensures c.if-n-eq0.false)

pub loop-preserved : goal.loop-preserved
loop-preserved c =
    let e : c.args.k - c.loop.counter - 1 ≡ c.args.k - (c.loop.counter + 1) = omega arith in
    λ r i. c.loop.invariant r (walk_on _ _ _ _ _ r (λ z. omega arith) (fitting_some _ _ _ _ c.fitting_words-n.ensures c.if-n-eq0.false) (rw e i))

pub returns-then-fitting_words-eq0 : goal.returns-then-fitting_words-eq0
unfolding linkage_in
returns-then-fitting_words-eq0 c = c.loop.invariant _ (walk_stops _ _ _ _ (fitting_none _ _ _ _ c.fitting_words.ensures c.if-fitting_words-eq0.true)) _ (omega arith)

pub linkage_at-requires : goal.linkage_at-requires
linkage_at-requires c = omega (arith, fitting_some _ _ _ _ c.fitting_words.ensures c.if-fitting_words-eq0.false)

pub returns : goal.returns
unfolding linkage_in
returns c =
    c.linkage_at.ensures
    ∙ c.loop.invariant _ (walk_here _ _ _ _ _ (omega arith) (fitting_some _ _ _ _ c.fitting_words.ensures c.if-fitting_words-eq0.false)) _ (omega arith)
