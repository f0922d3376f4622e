-- The loop's invariant: what was put so far stands before what the rest of the room takes.
use mathlib.Core.Path.{◌≡◌, ap, ◌∙◌}
use native.Mathlib.Omega.{arith}
use Rattle.words.specs.Words.{words}
use Rattle.words.proofs.Laws.{lent_below}
use Rattle.headers.proofs.Laws.{size_small}
use Rattle.order.proofs.Order.{place_small, place_next, start_there}
use Rattle.order.specs.Fitting.{in_numbers}
use Rattle.order.proofs.Fitting.{lays_numbers, going_start, going_done, now_room, turn_full, turn_more}
use Rattle.dgn_points.specs.Points.{point_numbers}
use Rattle.dgn_points.proofs.Places.{numbers_of}
use Rattle.dgn_points.proofs.put_points.Goals as goal

pub returns-then-elements-k : goal.returns-then-elements-k
returns-then-elements-k c = going_done in_numbers lays_numbers (going_start in_numbers lays_numbers c.args.numbers.now (numbers_of c.args.dim c.args.file.now) c.args.elements c.args.k) c.if-elements-k.true

pub loop-i-init : goal.loop-i-init
loop-i-init c =
    let there = start_there (words c.args.file.now) c.args.k (omega (arith, c.if-elements-k.false, c.requires)) in
    (c.start_of-at.ensures ∙ there, going_start in_numbers lays_numbers c.args.numbers.now (numbers_of c.args.dim c.args.file.now) c.args.elements c.args.k)

pub put_element-requires : goal.put_element-requires
put_element-requires c =
    let s = c.args.file.now in
    let p = place_small s (lent_below s c.type_inv.file) c.loop-i.i in
    let l = now_room in_numbers lays_numbers c.loop-i.invariant.1 in
    (c.requires.0, (omega (arith, c.loop-i.invariant.0, c.loop-i-test.true, c.requires), omega (arith, c.loop-i.invariant.1.room)))

pub shape_of-numbers-in_default : goal.shape_of-numbers-in_default
shape_of-numbers-in_default c =
    c.put_element.auto.numbers ∙ now_room in_numbers lays_numbers c.loop-i.invariant.1

pub returns-in_default : goal.returns-in_default
returns-in_default c =
    turn_full in_numbers lays_numbers c.loop-i.invariant.1 _ (ap (point_numbers c.args.dim (words c.args.file.now)) c.loop-i.invariant.0) c.loop-i-test.true _ _
    c.in_default.is c.put_element.ensures

pub overflow_add-at : goal.overflow_add-at
overflow_add-at c =
    let s = c.args.file.now in
    let b = lent_below s c.type_inv.file in
    omega (
      arith,
      c.size_at-at.ensures,
      size_small s b c.loop-i.at,
      place_small s b c.loop-i.i,
      c.loop-i.invariant.0,
      c.loop-i-test.true,
      c.requires,
    )

pub loop-i-preserved : goal.loop-i-preserved
loop-i-preserved c =
    let p = place_next (words c.args.file.now) c.loop-i.i _ _ c.loop-i.invariant.0 c.size_at-at.ensures in
    (p, turn_more in_numbers lays_numbers c.loop-i.invariant.1 _ (ap (point_numbers c.args.dim (words c.args.file.now)) c.loop-i.invariant.0) c.loop-i-test.true _ _ _ c.in-Some.is c.put_element.ensures)

pub shape_of-numbers : goal.shape_of-numbers
shape_of-numbers c = now_room in_numbers lays_numbers c.loop-i.invariant.1

pub returns : goal.returns
returns c =
    let z : c.loop-i.i ≡ c.args.elements = omega (arith, c.if-elements-k.false, c.loop-i-test.false) in
    rw z at (going_done in_numbers lays_numbers c.loop-i.invariant.1 c.loop-i-test.false)
