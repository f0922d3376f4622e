-- The loop's invariant: what was put so far stands before what the rest of the room takes.
use Prim.Native.Nat.{◌-◌}
use mathlib.Core.Path.{◌≡◌, ◌∙◌}
use native.Mathlib.Omega.{arith}
use lib.ListN.{length}
use Rattle.words.specs.Words.{words, word_at}
use Rattle.words.proofs.Laws.{lent_below}
use Rattle.kinds.specs.FirstWord.{deleted_of}
use Rattle.headers.proofs.Laws.{size_small}
use Rattle.order.specs.Order.{place_of}
use Rattle.order.proofs.Order.{place_small, place_next, start_there}
use Rattle.order.proofs.Fitting.{going_start, going_done, now_room, turn_full, turn_more}
use Rattle.dgn_curves.specs.Curves.{entry_by, both, in_both}
use Rattle.dgn_curves.proofs.Slices.{lays_both, same_numbers, same_floats}
use Rattle.dgn_curves.proofs.Places.{items_of, items_here}
use Rattle.dgn_curves.proofs.put_curves.Goals as goal
use Rattle.dgn_curves.proofs.put_curves.Goals.{After-put_curve, At-loop-i}

-- the slices keep their lengths
kept_numbers : (c : At-loop-i) → length c.loop-i.numbers ≡ length c.args.numbers.now
kept_numbers c =
    let a = c.args in
    same_numbers (both a.numbers.now a.floats.now) (both c.loop-i.numbers c.loop-i.floats) c.loop-i.invariant.1.given c.loop-i.invariant.1.stands

kept_floats : (c : At-loop-i) → length c.loop-i.floats ≡ length c.args.floats.now
kept_floats c =
    let a = c.args in
    same_floats (both a.numbers.now a.floats.now) (both c.loop-i.numbers c.loop-i.floats) c.loop-i.invariant.1.given c.loop-i.invariant.1.stands

pub returns-then-elements-k : goal.returns-then-elements-k
returns-then-elements-k c =
    let a = c.args in
    going_done in_both lays_both (going_start in_both lays_both (both a.numbers.now a.floats.now) (items_of a.dim a.file.now) a.elements a.k) c.if-elements-k.true

pub loop-i-init : goal.loop-i-init
loop-i-init c =
    let a = c.args in
    let there = start_there (words a.file.now) a.k (omega (arith, c.if-elements-k.false, c.requires)) in
    (c.start_of-at.ensures ∙ there, going_start in_both lays_both (both a.numbers.now a.floats.now) (items_of a.dim a.file.now) a.elements a.k)

pub put_curve-requires : goal.put_curve-requires
put_curve-requires c =
    let s = c.args.file.now in
    let p = place_small s (lent_below s c.type_inv.file) c.loop-i.i in
    let l = now_room in_both lays_both c.loop-i.invariant.1 in
    (omega (arith, c.loop-i.invariant.0, c.loop-i-test.true, c.requires), omega (arith, c.loop-i.invariant.1.room))

pub shape_of-numbers-in_default : goal.shape_of-numbers-in_default
shape_of-numbers-in_default c =
    c.put_curve.auto.numbers ∙ kept_numbers (goal.at.shape_of-numbers-in_default c).At-loop-i

pub shape_of-floats-in_default : goal.shape_of-floats-in_default
shape_of-floats-in_default c =
    c.put_curve.auto.floats ∙ kept_floats (goal.at.shape_of-floats-in_default c).At-loop-i

-- the items of this turn
here : (c : After-put_curve) → let ws = words c.args.file.now in let at = c.loop-i.at in entry_by c.curve_in-curve.result at (deleted_of (word_at ws at)) ≡ items_of c.args.dim c.args.file.now c.loop-i.i
here c =
    let a = c.args in
    items_here a.dim (words a.file.now) c.curve_in-curve.result c.loop-i.at (place_of (words a.file.now) c.loop-i.i)
    c.curve_in-curve.ensures c.loop-i.invariant.0

pub returns-in_default : goal.returns-in_default
returns-in_default c =
    turn_full in_both lays_both c.loop-i.invariant.1 _ (here (goal.at.returns-in_default c).After-put_curve) c.loop-i-test.true _ _ c.in_default.is c.put_curve.ensures

pub overflow_add-at : goal.overflow_add-at
overflow_add-at c =
    let s = c.args.file.now in
    let b = lent_below s c.type_inv.file in
    omega (
      arith,
      c.size_at-at.ensures,
      size_small s b c.loop-i.at,
      place_small s b c.loop-i.i,
      c.loop-i.invariant.0,
      c.loop-i-test.true,
      c.requires,
    )

pub loop-i-preserved : goal.loop-i-preserved
loop-i-preserved c =
    let p = place_next (words c.args.file.now) c.loop-i.i _ _ c.loop-i.invariant.0 c.size_at-at.ensures in
    let taken = c.loop-i-test.true in
    (p, turn_more in_both lays_both c.loop-i.invariant.1 _ (here (goal.at.loop-i-preserved c).After-put_curve) taken _ _ _ c.in-Some.is c.put_curve.ensures)

pub shape_of-numbers : goal.shape_of-numbers
shape_of-numbers c = kept_numbers (goal.at.shape_of-numbers c).At-loop-i

pub shape_of-floats : goal.shape_of-floats
shape_of-floats c = kept_floats (goal.at.shape_of-floats c).At-loop-i

pub returns : goal.returns
returns c =
    let z : c.loop-i.i ≡ c.args.elements = omega (arith, c.if-elements-k.false, c.loop-i-test.false) in
    rw z at (going_done in_both lays_both c.loop-i.invariant.1 c.loop-i-test.false)
