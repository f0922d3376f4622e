-- The invariant: the first k blocks stand (`fill_turn`).
use Rattle.std.proofs.Common.{◌*◌, sym, add-one, arith}
use Rattle.words.proofs.Over.{over_nil}
use Rattle.blocks.specs.Blocks.{stored_from}
use Rattle.blocks.proofs.Loops.{for_room, fill_turn, turns_end, mid_length}
use Rattle.blocks.proofs.fill.Goals as goal

pub loop-k-init : goal.loop-k-init
loop-k-init c = sym (over_nil _ _)

pub slice_bounds-put_first-count-in-loop-k : goal.slice_bounds-put_first-count-in-loop-k
slice_bounds-put_first-count-in-loop-k c = for_room _ _ _ c.requires.0 c.loop-k-test.true

pub slice_bounds-put_first-start-in-loop-k : goal.slice_bounds-put_first-start-in-loop-k
slice_bounds-put_first-start-in-loop-k c = for_room _ _ _ c.requires.0 c.loop-k-test.true

pub put_first-requires : goal.put_first-requires
put_first-requires c = mid_length c.loop-k.s (512 * c.loop-k.k) (omega arith)

pub loop-k-preserved : goal.loop-k-preserved
loop-k-preserved c =
    rw add-one
    (fill_turn c.args.s.now c.loop-k.s c.args.j.now c.put_first.new.s c.loop-k.k c.args.n
    c.loop-k.invariant c.requires.0 c.loop-k-test.true c.requires.1 c.put_first.ensures)

pub returns : goal.returns
returns c =
    let j = c.args.j.now in
    turns_end (λ i. stored_from i j) _ _ _ _ c.loop-k-test.false (omega arith) c.loop-k.invariant
