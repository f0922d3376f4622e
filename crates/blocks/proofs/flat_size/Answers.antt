-- The invariant: the size of the first k chunks (`flat_turn`).
use Rattle.std.proofs.Common.{◌*◌, ◌≤◌, length, refl, add-one, arith}
use Rattle.blocks.proofs.Loops.{in_room}
use Rattle.blocks.proofs.Flat.{Here, here, flat_le, flat_turn, flat_end}
use Rattle.blocks.proofs.flat_size.Goals as goal
use Rattle.blocks.proofs.flat_size.Goals.{After-word-t, In-loop-k}

pub loop-k-init : goal.loop-k-init
loop-k-init c = refl

inside : (c : In-loop-k) → 512 * c.loop-k.k ≤ length c.args.s.now
inside c = in_room _ _ _ c.requires.0 c.loop-k-test.true

counted : (c : After-word-t) → Here c.loop-k.k c.word-t.result c.args.s.now
counted c =
    here c.args.n c.loop-k.k _ c.args.s.now c.requires.1 c.loop-k-test.true c.word-t.ensures.is

pub overflow_mul-k : goal.overflow_mul-k
overflow_mul-k c = omega (arith, inside (goal.at.overflow_mul-k c).In-loop-k)

pub overflow_add-k : goal.overflow_add-k
overflow_add-k c = omega (arith, inside (goal.at.overflow_add-k c).In-loop-k)

pub overflow_add-t : goal.overflow_add-t
overflow_add-t c =
    omega (arith, flat_le c.loop-k.k c.args.s.now, c.loop-k.invariant, (counted (goal.at.overflow_add-t c).After-word-t).room)

pub loop-k-preserved : goal.loop-k-preserved
loop-k-preserved c = rw add-one (flat_turn _ _ _ _ c.loop-k.invariant (counted (goal.at.loop-k-preserved c).After-word-t))

pub returns : goal.returns
returns c = flat_end _ _ _ _ c.loop-k-test.false (omega arith) c.loop-k.invariant
