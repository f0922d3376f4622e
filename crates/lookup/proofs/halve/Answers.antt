-- The invariant is `Going`: what is left to do from here is what is left of the whole.
use native.Mathlib.Omega.{arith}
use Rattle.entries.proofs.Laws.{length_entries}
use Rattle.lookup.proofs.Turns.{start, past, to, end}
use Rattle.lookup.proofs.halve.Goals as goal

pub loop-low-init : goal.loop-low-init
loop-low-init c = start _ _ _ (length_entries _)

pub overflow_add-mid : goal.overflow_add-mid
overflow_add-mid c =
    omega (arith, c.loop-low.invariant.top, length_entries (c.args.s.now), c.well_formed.0)

pub overflow_add-looks : goal.overflow_add-looks
overflow_add-looks c =
    omega (arith, c.loop-low.invariant.few, length_entries (c.args.s.now), c.well_formed.0)

pub overflow_add-low : goal.overflow_add-low
overflow_add-low c =
    omega (arith, c.loop-low.invariant.top, length_entries (c.args.s.now), c.well_formed.0)

pub loop-low-preserved-then-entry-name : goal.loop-low-preserved-then-entry-name
loop-low-preserved-then-entry-name c =
    past _ _ (c.loop-low.invariant) (c.loop-low-test.true) (c.entry.ensures) (c.if-entry-name.true)

pub loop-low-preserved : goal.loop-low-preserved
loop-low-preserved c =
    to _ _ (c.loop-low.invariant) (c.loop-low-test.true) (c.entry.ensures) (c.if-entry-name.false)

pub returns : goal.returns
returns c = end _ _ (c.loop-low.invariant) (c.loop-low-test.false)
