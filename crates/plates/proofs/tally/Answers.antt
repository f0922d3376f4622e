-- The loop's invariant: what is counted and what the rest comes to make up the counts of all; no count is above the place.
use mathlib.Core.Path.{refl, ap, ◌∙◌}
use native.Mathlib.Omega.{arith}
use lib.ListN.{length-set}
use Rattle.words.specs.Words.{words}
use Rattle.promises.proofs.Promises.{extent_two, extent_small}
use Rattle.plates.specs.Hops.{slot_of, slot_count}
use Rattle.plates.proofs.Hops.{hop_none}
use Rattle.plates.proofs.Slots.{slot_small, none_counted, turn, turn_few}
use Rattle.plates.proofs.tally.Goals as goal

pub loop-here-init : goal.loop-here-init
loop-here-init c = (refl, λ k. omega (arith, none_counted 7 k), λ k. omega (arith, none_counted 7 k))

pub overflow_add-next : goal.overflow_add-next
overflow_add-next c =
    omega (
      arith,
      c.extent_words.ensures,
      extent_small c.args.file.now (λ i. (c.type_inv.file i).fits) c.loop-here.here,
      c.loop-here-test.true,
      c.requires,
    )

pub offset_bounds-counts-slot : goal.offset_bounds-counts-slot
offset_bounds-counts-slot c = omega (arith, c.slot_of-slot.ensures, slot_small (c.word.result))

pub bounds-counts-slot : goal.bounds-counts-slot
bounds-counts-slot c = omega (arith, c.slot_of-slot.ensures, slot_small (c.word.result))

pub overflow_add-counts : goal.overflow_add-counts
overflow_add-counts c =
    omega (arith, c.loop-here.invariant.1 c.slot_of-slot.result, c.loop-here-test.true, c.requires)

pub bounds-counts-slot-in-loop-here : goal.bounds-counts-slot-in-loop-here
bounds-counts-slot-in-loop-here c = omega (arith, c.slot_of-slot.ensures, slot_small (c.word.result))

pub loop-here-smaller : goal.loop-here-smaller
loop-here-smaller c =
    omega (arith, c.extent_words.ensures, extent_two (words c.args.file.now) c.loop-here.here, c.loop-here-test.true)

pub loop-here-preserved : goal.loop-here-preserved
loop-here-preserved c =
    let a = c.args in
    let here = c.loop-here.here in
    let ws = words a.file.now in
    let is = c.slot_of-slot.ensures ∙ ap slot_of c.word.ensures.is in
    let two = extent_two (words a.file.now) here in
    let x = c.extent_words.ensures in
    let inv = c.loop-here.invariant in
    let taken = c.loop-here-test.true in (
      simp length-set inv.0,
      turn_few ws here a.end _ _ _ c.loop-here.counts inv.0 taken is refl x inv.1 (omega arith),
      λ k. turn ws here a.end _ _ _ c.loop-here.counts inv.0 taken is refl x k _ (inv.2 k),
    )

pub returns : goal.returns
returns c = λ k.
    let h = c.loop-here.invariant.2 k in
    let n = ap (slot_count k (words (c.args.file.now))) (hop_none (words (c.args.file.now)) (c.args.end) (c.loop-here.here) (c.loop-here-test.false)) in
    omega arith
