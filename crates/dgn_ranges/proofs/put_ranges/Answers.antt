-- The loop's invariant: what was put so far stands before what the rest of the room takes.
use mathlib.Core.Path.{◌≡◌, ap, ◌∙◌}
use native.Mathlib.Omega.{arith}
use Rattle.words.specs.Words.{words}
use Rattle.words.proofs.Laws.{lent_below}
use Rattle.headers.proofs.Laws.{size_small}
use Rattle.order.specs.Fitting.{in_numbers}
use Rattle.order.proofs.Order.{place_small, place_next, start_there}
use Rattle.order.proofs.Fitting.{lays_numbers, going_start, going_done, now_room, turn_full, turn_more}
use Rattle.dgn_ranges.specs.Ranges.{entry_at}
use Rattle.dgn_ranges.proofs.Puts.{places_of}
use Rattle.dgn_ranges.proofs.put_ranges.Goals as goal

pub returns-then-elements-k : goal.returns-then-elements-k
returns-then-elements-k c =
    let a = c.args in
    going_done in_numbers lays_numbers (going_start in_numbers lays_numbers a.places.now (places_of a.dim a.file.now) a.elements a.k) c.if-elements-k.true

pub loop-i-init : goal.loop-i-init
loop-i-init c =
    let a = c.args in (
      c.start_of-at.ensures ∙ start_there (words a.file.now) a.k (omega (arith, c.if-elements-k.false, c.requires)),
      going_start in_numbers lays_numbers a.places.now (places_of a.dim a.file.now) a.elements a.k,
    )

pub put_element-requires : goal.put_element-requires
put_element-requires c =
    let s = c.args.file.now in
    let p = place_small s (lent_below s c.type_inv.file) c.loop-i.i in
    let l = now_room in_numbers lays_numbers c.loop-i.invariant.1 in
    (omega (arith, c.loop-i.invariant.0, c.loop-i-test.true, c.requires), omega (arith, c.loop-i.invariant.1.room))

pub shape_of-places-in_default : goal.shape_of-places-in_default
shape_of-places-in_default c =
    c.put_element.auto.places ∙ now_room in_numbers lays_numbers c.loop-i.invariant.1

pub returns-in_default : goal.returns-in_default
returns-in_default c =
    let a = c.args in
    turn_full in_numbers lays_numbers c.loop-i.invariant.1 _ (ap (entry_at a.dim (words a.file.now)) c.loop-i.invariant.0) c.loop-i-test.true _ _
    c.in_default.is c.put_element.ensures

pub overflow_add-at : goal.overflow_add-at
overflow_add-at c =
    let s = c.args.file.now in
    let b = lent_below s c.type_inv.file in
    omega (
      arith,
      c.size_at-size.ensures,
      size_small s b c.loop-i.at,
      place_small s b c.loop-i.i,
      c.loop-i.invariant.0,
      c.loop-i-test.true,
      c.requires,
    )

pub loop-i-preserved : goal.loop-i-preserved
loop-i-preserved c =
    let a = c.args in (
      place_next (words a.file.now) c.loop-i.i _ _ c.loop-i.invariant.0 c.size_at-size.ensures,
      turn_more in_numbers lays_numbers c.loop-i.invariant.1 _ (ap (entry_at a.dim (words a.file.now)) c.loop-i.invariant.0) c.loop-i-test.true _ _ _
          c.in-Some.is c.put_element.ensures,
    )

pub shape_of-places : goal.shape_of-places
shape_of-places c = now_room in_numbers lays_numbers c.loop-i.invariant.1

pub returns : goal.returns
returns c =
    let z : c.loop-i.i ≡ c.args.elements = omega (arith, c.if-elements-k.false, c.loop-i-test.false) in
    rw z at (going_done in_numbers lays_numbers c.loop-i.invariant.1 c.loop-i-test.false)
