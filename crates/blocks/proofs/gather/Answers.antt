-- The invariant: the first k chunks stand (`gather_turn`).
use Rattle.std.proofs.Common.{◌*◌, ◌≤◌, length, sym, refl, add-one, arith}
use Rattle.words.proofs.Over.{over_nil}
use Rattle.blocks.specs.Blocks.{flat_from}
use Rattle.blocks.proofs.Loops.{in_room, turns_end}
use Rattle.blocks.proofs.Flat.{Here, here, flat_le, flat_turn, gather_turn}
use Rattle.blocks.proofs.gather.Goals as goal
use Rattle.blocks.proofs.gather.Goals.{After-word-u, In-loop-k}

pub loop-k-init : goal.loop-k-init
loop-k-init c = (refl, sym (over_nil _ _))

-- block k is there, and its chunk where its count says
inside : (c : In-loop-k) → 512 * c.loop-k.k ≤ length c.args.s.now
inside c = in_room _ _ _ c.requires.0 c.loop-k-test.true

counted : (c : After-word-u) → Here c.loop-k.k c.word-u.result c.args.s.now
counted c =
    here c.args.n c.loop-k.k _ c.args.s.now c.requires.1 c.loop-k-test.true c.word-u.ensures.is

pub overflow_mul-k : goal.overflow_mul-k
overflow_mul-k c = omega (arith, inside (goal.at.overflow_mul-k c).In-loop-k)

pub overflow_add-k : goal.overflow_add-k
overflow_add-k c = omega (arith, inside (goal.at.overflow_add-k c).In-loop-k)

pub overflow_mul-at : goal.overflow_mul-at
overflow_mul-at c = omega (arith, inside (goal.at.overflow_mul-at c).In-loop-k)

pub overflow_add-at : goal.overflow_add-at
overflow_add-at c = omega (arith, (counted (goal.at.overflow_add-at c).After-word-u).room)

pub slice_bounds-copy_in-end : goal.slice_bounds-copy_in-end
slice_bounds-copy_in-end c = omega (arith, (counted (goal.at.slice_bounds-copy_in-end c).After-word-u).room)

pub overflow_add-t : goal.overflow_add-t
overflow_add-t c =
    omega (arith, flat_le c.loop-k.k c.args.s.now, c.loop-k.invariant.0, (counted (goal.at.overflow_add-t c).After-word-u).room)

pub loop-k-preserved : goal.loop-k-preserved
loop-k-preserved c =
    let more = flat_turn _ _ _ _ c.loop-k.invariant.0 (counted (goal.at.loop-k-preserved c).After-word-u) in
    let copied = gather_turn _ _ _ _ _ _ _ _ c.loop-k.invariant.1 c.loop-k.invariant.0 c.loop-k.auto.out c.loop-k-test.true
    c.requires.2 (counted (goal.at.loop-k-preserved c).After-word-u) c.copy_in.ensures in
    (rw add-one more, rw add-one copied)

pub returns : goal.returns
returns c =
    let s = c.args.s.now in
    turns_end (λ i. flat_from i s) _ _ _ _ c.loop-k-test.false (omega arith) c.loop-k.invariant.1
