-- The loop's invariant: what was put so far stands before what the rest of the room takes.
use mathlib.Core.Path.{◌≡◌, ap, ◌∙◌}
use native.Mathlib.Omega.{arith}
use lib.ListN.{length}
use Rattle.words.specs.Words.{words}
use Rattle.words.proofs.Laws.{lent_below}
use Rattle.headers.proofs.Laws.{size_small}
use Rattle.order.proofs.Order.{place_small, place_next, start_there}
use Rattle.order.proofs.Fitting.{going_start, going_done, now_room, turn_full, turn_more}
use Rattle.dgn_plates.specs.Plates.{in_plates, plate_items}
use Rattle.dgn_plates.proofs.Slices.{lays_plates, same_numbers}
use Rattle.dgn_plates.proofs.Places.{items_of}
use Rattle.dgn_plates.proofs.put_plates.Goals as goal
use Rattle.dgn_plates.proofs.put_plates.Goals.{After-put_element, At-loop-i}

-- the slice keeps its length
kept_numbers : (c : At-loop-i) → length c.loop-i.numbers ≡ length c.args.numbers.now
kept_numbers c = same_numbers c.args.numbers.now c.loop-i.numbers c.loop-i.invariant.1.given c.loop-i.invariant.1.stands

-- the items of this turn
here : (c : After-put_element) → plate_items (words c.args.file.now) c.loop-i.at ≡ items_of c.args.file.now c.loop-i.i
here c = ap (plate_items (words c.args.file.now)) c.loop-i.invariant.0

pub returns-then-elements-k : goal.returns-then-elements-k
returns-then-elements-k c = let a = c.args in going_done in_plates lays_plates (going_start in_plates lays_plates a.numbers.now (items_of a.file.now) a.elements a.k) (c.if-elements-k.true)

pub loop-i-init : goal.loop-i-init
loop-i-init c =
    let a = c.args in
    let there = start_there (words a.file.now) a.k (omega (arith, c.if-elements-k.false, c.requires)) in
    (c.start_of-at.ensures ∙ there, going_start in_plates lays_plates a.numbers.now (items_of a.file.now) a.elements a.k)

pub put_element-requires : goal.put_element-requires
put_element-requires c =
    let s = c.args.file.now in
    let p = place_small s (lent_below s (c.type_inv.file)) (c.loop-i.i) in
    let l = now_room in_plates lays_plates (c.loop-i.invariant.1) in
    (omega (arith, c.loop-i.invariant.0, c.loop-i-test.true, c.requires), omega (arith, c.loop-i.invariant.1.room))

pub shape_of-numbers-in_default : goal.shape_of-numbers-in_default
shape_of-numbers-in_default c =
    c.put_element.auto.numbers ∙ kept_numbers (goal.at.shape_of-numbers-in_default c).At-loop-i

pub returns-in_default : goal.returns-in_default
returns-in_default c =
    turn_full in_plates lays_plates c.loop-i.invariant.1 _ (here (goal.at.returns-in_default c).After-put_element) c.loop-i-test.true _ _ c.in_default.is c.put_element.ensures

pub overflow_add-at : goal.overflow_add-at
overflow_add-at c =
    let s = c.args.file.now in
    let b = lent_below s c.type_inv.file in
    omega (
      arith,
      c.size_at-at.ensures,
      size_small s b c.loop-i.at,
      place_small s b c.loop-i.i,
      c.loop-i.invariant.0,
      c.loop-i-test.true,
      c.requires,
    )

pub loop-i-preserved : goal.loop-i-preserved
loop-i-preserved c =
    let p = place_next (words c.args.file.now) c.loop-i.i _ _ c.loop-i.invariant.0 c.size_at-at.ensures in
    let taken = c.loop-i-test.true in
    (p, turn_more in_plates lays_plates c.loop-i.invariant.1 _ (here (goal.at.loop-i-preserved c).After-put_element) taken _ _ _ c.in-Some.is c.put_element.ensures)

pub shape_of-numbers : goal.shape_of-numbers
shape_of-numbers c = kept_numbers (goal.at.shape_of-numbers c).At-loop-i

pub returns : goal.returns
returns c =
    let z : c.loop-i.i ≡ c.args.elements = omega (arith, c.if-elements-k.false, c.loop-i-test.false) in
    rw z at (going_done in_plates lays_plates (c.loop-i.invariant.1) (c.loop-i-test.false))
