-- The loop's invariant: it is at the place of the element before number i, and what is kept is the last one up to there that is at the top.
use Prim.Native.Nat.{◌+◌, ◌-◌}
use mathlib.Core.Path.{◌≡◌, refl, ap, ◌∙◌, subst}
use mathlib.Core.Logic.{inl}
use native.Mathlib.Omega.{arith}
use Rattle.words.specs.Words.{words}
use Rattle.words.proofs.Laws.{lent_below}
use Rattle.headers.proofs.Laws.{size_small}
use Rattle.order.specs.Order.{place_of}
use Rattle.order.proofs.Order.{place_small, place_next}
use Rattle.dgn_all_views.specs.Tour.{TopBefore}
use Rattle.dgn_all_views.proofs.Tops.{top_turn}
use Rattle.dgn_all_views.proofs.top_before.Goals as goal

pub loop-i-init : goal.loop-i-init
loop-i-init c = (omega arith, refl, record { upto = omega arith; at_place = refl; top = inl refl })

pub overflow_add-at : goal.overflow_add-at
overflow_add-at c =
    let s = c.args.file.now in
    let b = lent_below s c.type_inv.file in
    omega (arith, c.size_at-at.ensures, size_small s b c.loop-i.at, place_small s b (c.loop-i.i - 1), c.loop-i.invariant.1, c.loop-i-test.true, c.requires)

pub loop-i-preserved : goal.loop-i-preserved
loop-i-preserved c =
    let ws = words c.args.file.now in
    let i = c.loop-i.i in
    let this : i - 1 + 1 ≡ i = omega (arith, c.loop-i.auto.i) in
    let more : i ≡ i + 1 - 1 = omega arith in
    let next = place_next ws (i - 1) _ _ c.loop-i.invariant.1 c.size_at-at.ensures ∙ ap (place_of ws) this in (
      omega arith,
      next ∙ ap (place_of ws) more,
      subst (λ m. TopBefore ws m (record { number = c.pick-number.result; place = c.pick-place.result })) more
          (top_turn ws i _ c.loop-i.place c.loop-i.number c.no_component-top.result _ _
          c.loop-i.invariant.2 next c.no_component-top.ensures c.pick-place.ensures c.pick-number.ensures),
    )

pub returns : goal.returns
returns c =
    let z : c.loop-i.i - 1 ≡ c.args.k = omega arith in
    subst (λ i. TopBefore (words c.args.file.now) i (record { number = c.loop-i.number; place = c.loop-i.place })) z c.loop-i.invariant.2
