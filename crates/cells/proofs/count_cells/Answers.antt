-- The loop's invariant: so many counted and those from here on are all.
use mathlib.Core.Path.{sym, ◌∙◌}
use native.Mathlib.Omega.{arith}
use Rattle.words.specs.Words.{words}
use Rattle.words.proofs.Laws.{lent_below, length_words}
use Rattle.headers.proofs.Laws.{size_small}
use Rattle.cells.proofs.Counts.{counts_none, counts_one, counts_all, picked, at_most_one}
use Rattle.cells.proofs.count_cells.Goals as goal

pub loop-at-init : goal.loop-at-init
loop-at-init c =
    let a = c.args in
    let e = c.pick-end.ensures ∙ picked a.to _ in
    let l = length_words a.s.now in
    (omega arith, (omega arith, λ k f. omega (arith, counts_all (words a.s.now) a.from a.to c.pick-end.result k (omega arith) f)))

pub overflow_add-n : goal.overflow_add-n
overflow_add-n c = omega (arith, c.pick-n.ensures, at_most_one c.is_cell.result, c.loop-at-test.true, c.loop-at.invariant.0, c.loop-at.invariant.1.0)

pub overflow_add-at : goal.overflow_add-at
overflow_add-at c =
    let s = c.args.s.now in
    let size = size_small s (lent_below s c.type_inv.s) c.loop-at.at in
    omega (arith, c.loop-at-test.true, c.loop-at.invariant.1.0, c.size_at-at.ensures)

pub loop-at-smaller : goal.loop-at-smaller
loop-at-smaller c = omega (arith, c.loop-at-test.true, c.size_at-at.ensures)

pub loop-at-preserved : goal.loop-at-preserved
loop-at-preserved c =
    let s = c.args.s.now in
    let loop = c.loop-at in
    let end = c.pick-end.result in
    let e = c.pick-n.ensures in (
      omega (arith, e, at_most_one c.is_cell.result, c.size_at-at.ensures, loop.invariant.0),
      (
        loop.invariant.1.0,
        λ k f.
            omega (
              arith,
              e,
              loop.invariant.1.1 _
                  (counts_one (words s) loop.at end k c.is_cell.result c.loop-at-test.true (sym c.is_cell.ensures) (rw c.size_at-at.ensures at f)),
            ),
      ),
    )

pub returns : goal.returns
returns c = omega (arith, c.loop-at.invariant.1.1 0 (counts_none _ _ _ c.loop-at-test.false))
