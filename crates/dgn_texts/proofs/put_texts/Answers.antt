-- The loop's invariant: the walk stands at element number i, and what was put so far stands before what the rest of the room takes.
use Prim.Native.Nat.{◌+◌, ◌≤◌, ◌<◌}
use mathlib.Core.Path.{◌≡◌, sym, ap, ◌∙◌, subst}
use native.Mathlib.Omega.{arith}
use lib.ListN.{length}
use Rattle.words.specs.Words.{words}
use Rattle.words.proofs.Laws.{lent_below, length_words}
use Rattle.headers.specs.Header.{size_at}
use Rattle.headers.proofs.Laws.{size_small, words_small}
use Rattle.walking.proofs.Steps.{opens_shallow}
use Rattle.order.specs.Fitting.{in_numbers}
use Rattle.order.proofs.Fitting.{lays_numbers, Going, going_start, going_done, now_room, turn_full, turn_more}
use Rattle.dgn_texts.specs.Texts.{walk_of, entry_at, from_number}
use Rattle.dgn_texts.proofs.Walks.{walking_start, walk_in, walk_out, walk_on}
use Rattle.dgn_texts.proofs.Places.{numbers_of, from_first}
use Rattle.dgn_texts.proofs.put_texts.Goals as goal
use Rattle.dgn_texts.proofs.put_texts.Goals.{After-size_at, In-loop-i, Then-opens_list, then-opens_list, else-opens_list+then-next-end, else-opens_list+else-next-end}

-- the element lies in the file
inside : (c : In-loop-i) → (c.loop-i.place < length (words c.args.file.now)) × (length (words c.args.file.now) ≤ 524288) × (c.loop-i.place < length c.args.file.now)
inside c =
    let i = c.requires.1 c.loop-i.i c.loop-i-test.true in
    let p = ap (λ w. w.place) c.loop-i.invariant.0.is in
    let l = length_words c.args.file.now in
    (omega arith, c.requires.0, omega arith)

-- its numbers are those of the walk
here : (c : In-loop-i) → let a = c.args in let l = c.loop-i in from_number a.k l.i (entry_at a.dim (words a.file.now) (record { place = l.place; depth = l.depth; ends = l.ends })) ≡ numbers_of a.dim a.file.now a.k l.i
here c =
    let a = c.args in
    ap (λ w. from_number a.k c.loop-i.i (entry_at a.dim (words a.file.now) w)) c.loop-i.invariant.0.is

-- the next element begins behind it
next_is : (c : After-size_at) → c.loop-i.place + c.size_at.result ≡ c.loop-i.place + size_at (words c.args.file.now) c.loop-i.place
next_is c =
    ap (λ n. c.loop-i.place + n) c.size_at.ensures

pub returns-then-elements-k : goal.returns-then-elements-k
returns-then-elements-k c =
    let a = c.args in
    going_done in_numbers lays_numbers (going_start in_numbers lays_numbers a.numbers.now (λ i. entry_at a.dim (words a.file.now) (walk_of (words a.file.now) i)) a.elements a.k) c.if-elements-k.true

pub loop-i-init : goal.loop-i-init
loop-i-init c =
    let a = c.args in
    let ws = words a.file.now in
    let numbers = a.numbers.now in
    let from = numbers_of a.dim a.file.now a.k in
    let first = from_first a.k (length numbers) (λ i. entry_at a.dim ws (walk_of ws i)) a.elements (omega (arith, c.if-elements-k.false)) in
    (walking_start ws, subst (λ p. Going in_numbers lays_numbers p numbers from a.elements 0 0 numbers) first (going_start in_numbers lays_numbers numbers from a.elements 0))

pub put_from-requires : goal.put_from-requires
put_from-requires c =
    let in_file = inside (goal.at.put_from-requires c).In-loop-i in
    let deep = c.loop-i.invariant.0.deep in
    let l = now_room in_numbers lays_numbers c.loop-i.invariant.1 in
    (omega arith, (omega arith, omega (arith, c.loop-i.invariant.1.room)))

pub shape_of-numbers-in_default : goal.shape_of-numbers-in_default
shape_of-numbers-in_default c =
    c.put_from.auto.numbers ∙ now_room in_numbers lays_numbers c.loop-i.invariant.1

pub returns-in_default : goal.returns-in_default
returns-in_default c =
    turn_full in_numbers lays_numbers c.loop-i.invariant.1 _ (here (goal.at.returns-in_default c).In-loop-i) c.loop-i-test.true _ _ c.in_default.is c.put_from.ensures

pub overflow_add-next : goal.overflow_add-next
overflow_add-next c =
    let s = c.args.file.now in
    omega (arith, c.size_at.ensures, size_small s (lent_below s c.type_inv.file) c.loop-i.place, inside (goal.at.overflow_add-next c).In-loop-i)

-- a list that opens is not the deepest
shallow : (c : Then-opens_list) → c.loop-i.depth < 8
shallow c = opens_shallow _ _ _ (sym c.opens_list.ensures ∙ c.if-opens_list.true)

pub overflow_add-depth : goal.overflow_add-depth
overflow_add-depth c = omega (arith, shallow (goal.at.overflow_add-depth c).Then-opens_list)

pub overflow_add-end : goal.overflow_add-end
overflow_add-end c =
    let s = c.args.file.now in
    omega (arith, c.extent_words.ensures, words_small s (lent_below s c.type_inv.file) c.loop-i.place, inside (goal.at.overflow_add-end c).In-loop-i)

pub offset_bounds-ends-depth : goal.offset_bounds-ends-depth
offset_bounds-ends-depth c = omega (arith, shallow (goal.at.offset_bounds-ends-depth c).Then-opens_list)

pub bounds-ends-depth : goal.bounds-ends-depth
bounds-ends-depth c = omega (arith, shallow (goal.at.bounds-ends-depth c).Then-opens_list)

pub loop-i-preserved : goal.loop-i-preserved
loop-i-preserved c =
    let on = c.loop-i.invariant.0 in
    let in_file = (inside (goal.at.loop-i-preserved c).In-loop-i).0 in
    let next = next_is (goal.at.loop-i-preserved c).After-size_at in (
      elim c.if-opens_list.branch [
        | then-opens_list w ↦ rw (w.place-is, w.depth-is, w.ends-is, w.end-is)
            (walk_in on in_file _ next (sym c.opens_list.ensures ∙ w.if-opens_list.true) _ w.extent_words.ensures)
        | else-opens_list+then-next-end w ↦ rw (w.place-is, w.depth-is, w.ends-is, w.end-is)
            (walk_out on in_file _ next (sym c.opens_list.ensures ∙ w.if-opens_list.false) _ w.closed_to-depth.ensures _ w.end_in-end.ensures)
        | else-opens_list+else-next-end w ↦ rw (w.place-is, w.depth-is, w.ends-is, w.end-is)
            (walk_on on in_file _ next (sym c.opens_list.ensures ∙ w.if-opens_list.false) w.if-next-end.false)
      ],
      turn_more in_numbers lays_numbers c.loop-i.invariant.1 _ (here (goal.at.loop-i-preserved c).In-loop-i) c.loop-i-test.true _ _ _ c.in-Some.is c.put_from.ensures,
    )

pub shape_of-numbers : goal.shape_of-numbers
shape_of-numbers c = now_room in_numbers lays_numbers c.loop-i.invariant.1

pub returns : goal.returns
returns c =
    let z : c.loop-i.i ≡ c.args.elements = omega (arith, c.loop-i-test.false) in
    rw z at (going_done in_numbers lays_numbers c.loop-i.invariant.1 c.loop-i-test.false)
