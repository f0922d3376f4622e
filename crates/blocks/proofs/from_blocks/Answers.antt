-- A way out for each answer.
use Rattle.blocks.proofs.Ways.{from_odd, from_long, from_bad, from_full, from_done, blocks_in_lem, none_bad}
use Rattle.std.proofs.Common.{arith}
use Rattle.blocks.proofs.from_blocks.Goals as goal

pub returns-then-len-ne0 : goal.returns-then-len-ne0
returns-then-len-ne0 c = from_odd c.args.s.now _ c.if-len-ne0.true

pub returns-then-len-gt1057280 : goal.returns-then-len-gt1057280
returns-then-len-gt1057280 c = from_long c.args.s.now _ c.if-len-ne0.false c.if-len-gt1057280.true

pub first_bad-bad-requires : goal.first_bad-bad-requires
first_bad-bad-requires c = blocks_in_lem _

pub returns-then-bad-n : goal.returns-then-bad-n
returns-then-bad-n c =
    from_bad c.args.s.now _ c.if-len-ne0.false c.if-len-gt1057280.false _ _ (blocks_in_lem _) c.first_bad-bad.ensures c.if-bad-n.true

pub flat_size-size-requires : goal.flat_size-size-requires
flat_size-size-requires c = (blocks_in_lem _, none_bad _ _ _ (blocks_in_lem _) c.first_bad-bad.ensures c.if-bad-n.false)

pub returns-then-out-size : goal.returns-then-out-size
returns-then-out-size c =
    from_full c.args.s.now _ c.if-len-ne0.false c.if-len-gt1057280.false _ _ (blocks_in_lem _) c.first_bad-bad.ensures
    c.if-bad-n.false _ c.flat_size-size.ensures c.if-out-size.true

pub gather-requires : goal.gather-requires
gather-requires c =
    (blocks_in_lem _, none_bad _ _ _ (blocks_in_lem _) c.first_bad-bad.ensures c.if-bad-n.false, omega (arith, c.flat_size-size.ensures, c.if-out-size.false))

pub returns : goal.returns
returns c =
    from_done c.args.s.now _ c.if-len-ne0.false c.if-len-gt1057280.false _ _ (blocks_in_lem _) c.first_bad-bad.ensures
    c.if-bad-n.false _ c.flat_size-size.ensures _ c.if-out-size.false c.gather.ensures
