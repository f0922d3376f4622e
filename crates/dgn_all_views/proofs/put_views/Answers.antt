-- The loop's invariant: place, depth and what is kept are those of the i-th element of the walk, and the views of the elements before it
-- are put. Each turn puts one view, and goes on by one of the three steps (`tour_on`, `tour_in`, `tour_over`).
use Prim.Native.Nat.{◌+◌, ◌-◌, ◌<◌}
use mathlib.Core.Path.{◌≡◌, refl, sym, ap, ◌∙◌}
use native.Mathlib.Omega.{arith}
use lib.ListN.{length, length-set}
use lib.Seq.{sets}
use Rattle.words.specs.Words.{words, Below}
use Rattle.words.proofs.Laws.{lent_below}
use Rattle.headers.proofs.Laws.{size_small, words_small}
use Rattle.walking.proofs.Steps.{opens_shallow}
use Rattle.dgn_all_views.specs.Views.{views_from}
use Rattle.dgn_all_views.proofs.Puts.{walk_turn, walk_inside, tour_on, tour_in, tour_over, end_opened, above_opened}
use Rattle.dgn_all_views.proofs.put_views.Goals as goal
use Rattle.dgn_all_views.proofs.put_views.Goals.{then-goes_on, else-goes_on+then-opens_list, else-goes_on+else-opens_list, After-extent_words, After-size_at-size, At-loop-i, In-loop-i}

bytes : (c : At-loop-i) → Below 256 c.args.file.now
bytes c = lent_below c.args.file.now c.type_inv.file

inside : (c : In-loop-i) → (c.loop-i.place < length (words c.args.file.now)) × (c.loop-i.place < length c.args.file.now)
inside c =
    let l = c.loop-i in
    walk_inside c.args.file.now l.place l.depth l.ends l.headers c.args.top l.i l.invariant.1
    (c.requires.1.1 l.i c.loop-i-test.true)

---- the needs
pub loop-i-init : goal.loop-i-init
loop-i-init c =
    let z : 0 - c.args.k ≡ 0 = omega arith in
    (refl, refl, rw z refl, refl, refl, refl, refl)

pub put_one-requires : goal.put_one-requires
put_one-requires c =
    let h = c.requires.0 in
    let l = c.loop-i.invariant.0 in
    let t = c.loop-i-test.true in
    ((inside (goal.at.put_one-requires c).In-loop-i).0, λ a. omega arith)

-- the place of the next element is small
next_small : (c : After-size_at-size) → (c.loop-i.place + c.size_at-size.result < c.loop-i.place + 65538)
next_small c = omega (arith, c.size_at-size.ensures, size_small c.args.file.now (lent_below c.args.file.now c.type_inv.file) c.loop-i.place)

pub overflow_add-place : goal.overflow_add-place
overflow_add-place c =
    omega (arith, next_small (goal.at.overflow_add-place c).After-size_at-size, (inside (goal.at.overflow_add-place c).In-loop-i).1)

shallow : (c : After-extent_words) → c.loop-i.depth < 8
shallow c =
    opens_shallow _ _ _ (sym c.opens_list.ensures ∙ c.if-opens_list.true)

pub overflow_add-depth : goal.overflow_add-depth
overflow_add-depth c = omega (arith, opens_shallow _ _ _ (sym c.opens_list.ensures ∙ c.if-opens_list.true))

pub overflow_add-end : goal.overflow_add-end
overflow_add-end c =
    omega (arith, c.extent_words.ensures, words_small c.args.file.now (bytes (goal.at.overflow_add-end c).At-loop-i) c.loop-i.place, (inside (goal.at.overflow_add-end c).In-loop-i).1)

pub offset_bounds-ends-depth : goal.offset_bounds-ends-depth
offset_bounds-ends-depth c = omega (arith, shallow (goal.at.offset_bounds-ends-depth c).After-extent_words)

pub bounds-ends-depth : goal.bounds-ends-depth
bounds-ends-depth c = omega (arith, shallow (goal.at.bounds-ends-depth c).After-extent_words)

pub offset_bounds-headers-depth : goal.offset_bounds-headers-depth
offset_bounds-headers-depth c = omega (arith, shallow (goal.at.offset_bounds-headers-depth c).After-extent_words)

pub bounds-headers-depth : goal.bounds-headers-depth
bounds-headers-depth c = omega (arith, shallow (goal.at.bounds-headers-depth c).After-extent_words)

pub overflow_add-place-then-opens_list : goal.overflow_add-place-then-opens_list
overflow_add-place-then-opens_list c = omega (arith, next_small (goal.at.overflow_add-place-then-opens_list c).After-size_at-size, (inside (goal.at.overflow_add-place-then-opens_list c).In-loop-i).1)

pub overflow_add-place-else-opens_list : goal.overflow_add-place-else-opens_list
overflow_add-place-else-opens_list c =
    omega (arith, next_small (goal.at.overflow_add-place-else-opens_list c).After-size_at-size, (inside (goal.at.overflow_add-place-else-opens_list c).In-loop-i).1)

pub loop-i-preserved : goal.loop-i-preserved
loop-i-preserved c =
    let l = c.loop-i in
    let ws = words c.args.file.now in
    let in_file = (inside (goal.at.loop-i-preserved c).In-loop-i).0 in
    let long = c.put_one.auto.views ∙ l.invariant.0 in
    let put = walk_turn ws c.args.top c.args.k l.i l.place l.depth l.ends l.headers l.above c.args.views.now l.views _ l.invariant.1 l.invariant.4 l.invariant.2 c.put_one.ensures in
    elim c.if-goes_on.branch [
      | then-goes_on w ↦ rw (w.place-is, w.depth-is, w.ends-is, w.headers-is, w.end-is, w.above-is) (
        long,
        tour_on ws l.place l.depth l.ends l.headers c.args.top l.i _ l.invariant.1 c.size_at-size.ensures l.end l.invariant.3 (c.goes_on.ensures w.if-goes_on.true),
        put,
        l.invariant.3,
        l.invariant.4,
        l.invariant.5,
        l.invariant.6,
      )
      | else-goes_on+then-opens_list w ↦
          let opened = sym w.opens_list.ensures ∙ w.if-opens_list.true in
          let deep = opens_shallow _ _ _ opened in
          rw (w.place-is, w.depth-is, w.ends-is, w.headers-is, w.end-is, w.above-is) (
            long,
            tour_in ws l.place l.depth l.ends l.headers c.args.top l.i _ l.invariant.1 c.size_at-size.ensures in_file opened _ w.extent_words.ensures,
            put,
            end_opened l.ends (l.depth + 1) _ l.invariant.5 (omega (arith, deep)),
            above_opened l.headers l.depth l.place l.invariant.6 deep,
            length-set l.ends (l.depth + 1) _ ∙ l.invariant.5,
            length-set l.headers (l.depth + 1) _ ∙ l.invariant.6,
          )
      | else-goes_on+else-opens_list w ↦ rw (w.place-is, w.depth-is, w.ends-is, w.headers-is, w.end-is, w.above-is) (
        long,
        tour_over ws l.place l.depth l.ends l.headers c.args.top l.i _ l.invariant.1 c.size_at-size.ensures in_file
            (sym w.opens_list.ensures ∙ w.if-opens_list.false) _ w.closed_to-depth.ensures,
        put,
        w.end_in-end.ensures,
        w.above_in-above.ensures,
        l.invariant.5,
        l.invariant.6,
      )
    ]

pub shape_of-views : goal.shape_of-views
shape_of-views c = c.loop-i.invariant.0

pub returns : goal.returns
returns c =
    let z : c.loop-i.i - c.args.k ≡ c.args.n = omega (arith, c.loop-i-test.false) in
    c.loop-i.invariant.2 ∙ ap (λ m. sets c.args.views.now 0 (views_from m (words c.args.file.now) c.args.top c.args.k)) z
