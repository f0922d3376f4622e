-- The loop's invariant: the live cells before the place are marked (Table), in a table as long as it was.
use mathlib.Core.Path.{refl, ◌∙◌}
use native.Mathlib.Omega.{arith}
use Rattle.words.proofs.Laws.{lent_below}
use Rattle.headers.proofs.Laws.{size_small}
use Rattle.lookup.proofs.Table.{fill_none, fill_more, fill_all}
use Rattle.lookup.proofs.fill_live.Goals as goal

pub loop-at-init : goal.loop-at-init
loop-at-init c = (refl, fill_none c.requires.none)

pub put_live-requires : goal.put_live-requires
put_live-requires c =
    omega (arith, c.loop-at-test.true, c.requires.room, c.loop-at.invariant.0)

pub overflow_add-at : goal.overflow_add-at
overflow_add-at c =
    let s = c.args.file.now in
    let size = size_small s (lent_below s c.type_inv.file) c.loop-at.at in
    omega (arith, c.loop-at-test.true, c.requires.short, c.size_at-at.ensures)

pub loop-at-smaller : goal.loop-at-smaller
loop-at-smaller c = omega (arith, c.loop-at-test.true, c.size_at-at.ensures)

pub loop-at-preserved : goal.loop-at-preserved
loop-at-preserved c = (
  c.put_live.auto.t ∙ c.loop-at.invariant.0,
  rw c.size_at-at.ensures
      (fill_more _ _ _ _ c.loop-at.invariant.1 c.loop-at-test.true
      (omega (arith, c.loop-at-test.true, c.requires.room, c.loop-at.invariant.0)) _ c.put_live.ensures),
)

pub shape_of-t : goal.shape_of-t
shape_of-t c = c.loop-at.invariant.0

pub returns : goal.returns
returns c = fill_all c.loop-at.invariant.1 c.loop-at-test.false
