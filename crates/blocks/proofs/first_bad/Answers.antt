-- What is left to judge decides (`bad_turn`).
use Rattle.std.proofs.Common.{add-one, arith}
use Rattle.blocks.proofs.Loops.{bad_start, bad_turn, bad_here, bad_end, in_room}
use Rattle.blocks.proofs.first_bad.Goals as goal

pub loop-k-init : goal.loop-k-init
loop-k-init c = bad_start _ _ c.requires

pub is_good-requires : goal.is_good-requires
is_good-requires c = in_room _ _ _ c.requires c.loop-k-test.true

pub returns-then-not-is_good : goal.returns-then-not-is_good
returns-then-not-is_good c =
    bad_here _ _ _ _ c.loop-k-test.true c.loop-k.invariant c.is_good.ensures (c.if-not-is_good.true)

pub loop-k-preserved : goal.loop-k-preserved
loop-k-preserved c =
    rw add-one (bad_turn _ _ _ _ c.loop-k-test.true c.loop-k.invariant c.is_good.ensures (c.if-not-is_good.false))

pub returns : goal.returns
returns c = bad_end _ _ _ c.loop-k-test.false (omega arith) c.loop-k.invariant
