-- A short end is whole (`first_short`).
use Rattle.std.proofs.Common.{sym, length-take-le}
use Rattle.blocks.proofs.Journal.{take_short}
use Rattle.blocks.proofs.Loops.{first_short}
use Rattle.blocks.proofs.put_first.Goals as goal

pub returns-then-c-lt508 : goal.returns-then-c-lt508
returns-then-c-lt508 c = first_short _ _ c.if-c-lt508.true c.put_block.ensures

pub slice_bounds-put_block-end : goal.slice_bounds-put_block-end
slice_bounds-put_block-end c = sym (length-take-le 508 c.args.c.now c.if-c-lt508.false)

pub put_block-requires-2 : goal.put_block-requires-2
put_block-requires-2 c =
    (c.requires, take_short 508 c.args.c.now)
