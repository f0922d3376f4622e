-- The loop's invariant: what the elements from a place on answer, after n others, is what all of the part answer.
use mathlib.Core.Path.{sym, ◌∙◌}
use native.Mathlib.Omega.{arith}
use Rattle.words.proofs.Laws.{lent_below}
use Rattle.headers.proofs.Laws.{size_small}
use Rattle.finder.proofs.Looks.{look_none, look_hit, look_next}
use Rattle.finder.proofs.look.Goals as goal

pub loop-at-init : goal.loop-at-init
loop-at-init c = (c.requires.0, λ r f. f)

pub is_hit-requires : goal.is_hit-requires
is_hit-requires c = omega (arith, c.loop-at-test.true, c.requires.1)

pub overflow_add-result : goal.overflow_add-result
overflow_add-result c =
    omega (arith, c.loop-at-test.true, c.requires.1, c.loop-at.invariant.0)

pub returns-then-is_hit : goal.returns-then-is_hit
returns-then-is_hit c = c.loop-at.invariant.1 _ (look_hit _ _ _ _ _ _ _ (c.loop-at-test.true) (sym (c.is_hit.ensures) ∙ c.if-is_hit.true))

pub overflow_add-at : goal.overflow_add-at
overflow_add-at c =
    let s = c.args.file.now in
    let size = size_small s (lent_below s c.type_inv.file) c.loop-at.at in
    omega (arith, c.loop-at-test.true, c.requires.1, c.size_at-at.ensures)

pub overflow_add-n : goal.overflow_add-n
overflow_add-n c =
    omega (arith, c.loop-at-test.true, c.requires.1, c.loop-at.invariant.0)

pub loop-at-smaller : goal.loop-at-smaller
loop-at-smaller c = omega (arith, c.loop-at-test.true, c.size_at-at.ensures)

pub loop-at-preserved : goal.loop-at-preserved
loop-at-preserved c =
    (omega (arith, c.size_at-at.ensures, c.loop-at.invariant.0), λ r f. c.loop-at.invariant.1 r (look_next _ _ _ _ _ _ _ c.loop-at-test.true (sym c.is_hit.ensures ∙ c.if-is_hit.false) r (rw c.size_at-at.ensures at f)))

pub returns : goal.returns
returns c = rw c.none_named.ensures (c.loop-at.invariant.1 _ (look_none _ _ _ _ _ _ _ (c.loop-at-test.false)))
