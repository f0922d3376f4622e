-- The loop's invariant: the entries stored, and then those of the cells from here on put over what follows, are all; and so the count.
use mathlib.Core.Path.{refl, sym, ap, ◌∙◌}
use mathlib.Core.List.{[], ◌++◌}
use lib.ListN.{length, take-append-drop}
use native.Mathlib.Omega.{arith}
use Rattle.words.specs.Words.{words}
use Rattle.words.proofs.Laws.{length_words, lent_below}
use Rattle.headers.proofs.Laws.{size_small}
use Rattle.entries.specs.Entries.{entries}
use Rattle.cells.specs.Cells.{cell_here}
use Rattle.cells.specs.Index.{entries_of}
use Rattle.cells.proofs.Counts.{picked, at_most_one}
use Rattle.kinds.specs.Kinds.{is_cell}
use Rattle.headers.specs.Header.{type_at}
use Rattle.indexing.specs.Indexing.{over}
use Rattle.indexing.proofs.Fills.{left_none, left_one, left_all, meets, met_count}
use Rattle.indexing.proofs.gather.Goals as goal

pub loop-at-init : goal.loop-at-init
loop-at-init c =
    let a = c.args in
    let e = c.pick-end.ensures ∙ picked a.to _ in
    let l = length_words a.file.now in (
      omega arith,
      (
        omega arith,
        (
          refl,
          λ cs f.
              let g = left_all (words a.file.now) a.to c.pick-end.result cs (omega arith) f in
              record { stored = ap (λ z. over (entries_of z) (entries a.s.now)) (sym g); count = let h = ap length (sym g) in omega arith },
        ),
      ),
    )

pub overflow_add-next : goal.overflow_add-next
overflow_add-next c =
    let loop = c.loop-at in
    let s = c.args.file.now in
    let size = size_small s (lent_below s c.type_inv.file) loop.at in
    omega (arith, c.loop-at-test.true, loop.invariant.1.0, c.size_at.ensures, c.requires)

pub meet-i-requires : goal.meet-i-requires
meet-i-requires c =
    let i = c.loop-at.invariant in
    let t = c.loop-at-test.true in
    let z = i.1.0 in
    record { short = c.requires; inside = omega arith; few = i.0 }

pub loop-at-smaller : goal.loop-at-smaller
loop-at-smaller c = omega (arith, c.loop-at-test.true, c.size_at.ensures)

pub loop-at-preserved : goal.loop-at-preserved
loop-at-preserved c =
    let met = c.meet-i in
    let loop = c.loop-at in
    let s = c.args.file.now in
    let end = c.pick-end.result in
    let k = loop.invariant.1.1.0 in (
      omega (arith, met.ensures.next, at_most_one (is_cell (type_at (words s) loop.at)), c.size_at.ensures, loop.invariant.0),
      (
        loop.invariant.1.0,
        (
          met.auto.s ∙ k,
          λ cs f.
              let ahead = loop.invariant.1.1.1 (cell_here (words s) loop.at loop.at ++ cs) (left_one (words s) loop.at end cs c.loop-at-test.true (rw c.size_at.ensures at f)) in
              record {
                stored = meets (words s) loop.at loop.i (entries loop.s) met.result _ cs _ met.ensures ahead.stored;
                count = met_count (words s) loop.at loop.i (entries loop.s) met.result _ cs _ met.ensures ahead.count;
              },
        ),
      ),
    )

pub shape_of-s : goal.shape_of-s
shape_of-s c = c.loop-at.invariant.1.1.0

pub returns : goal.returns
returns c =
    let loop = c.loop-at in
    let s = c.args.file.now in
    let done = loop.invariant.1.1.1 [] (left_none (words s) loop.at _ c.loop-at-test.false) in
    record { count = omega (arith, done.count); entries = sym (done.stored ∙ take-append-drop loop.i (entries loop.s)) }
