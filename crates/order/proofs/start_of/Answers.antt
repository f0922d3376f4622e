-- The loop's invariant: it is at the place of element number `counter`.
use mathlib.Core.Path.{◌≡◌, refl, sym, ap, ◌∙◌}
use native.Mathlib.Omega.{arith}
use Rattle.words.specs.Words.{words}
use Rattle.words.proofs.Laws.{lent_below}
use Rattle.headers.proofs.Laws.{size_small}
use Rattle.order.specs.Order.{place_of}
use Rattle.order.proofs.Order.{place_small, place_next, start_there, start_none}
use Rattle.order.proofs.start_of.Goals as goal

pub returns-then-k-gt1048576 : goal.returns-then-k-gt1048576
returns-then-k-gt1048576 c = sym (start_none (words c.args.file.now) c.args.k c.if-k-gt1048576.true)

pub loop-init : goal.loop-init
loop-init c = refl

pub overflow_add-at : goal.overflow_add-at
overflow_add-at c =
    let s = c.args.file.now in
    let b = lent_below s c.type_inv.file in
    omega (
      arith,
      c.size_at-at.ensures,
      size_small s b c.loop.at,
      place_small s b c.loop.counter,
      c.loop.invariant,
      c.loop-test.true,
      c.if-k-gt1048576.false,
    )

pub loop-preserved : goal.loop-preserved
loop-preserved c = place_next (words c.args.file.now) c.loop.counter _ _ c.loop.invariant c.size_at-at.ensures

pub returns : goal.returns
returns c =
    let a = c.args in
    let z : c.loop.counter ≡ a.k = omega arith in
    c.loop.invariant ∙ ap (place_of (words a.file.now)) z ∙ sym (start_there (words a.file.now) a.k c.if-k-gt1048576.false)
