-- The part lent is the block (`good_tested`).
use Rattle.std.proofs.Common.{arith}
use Rattle.blocks.proofs.Journal.{most_small}
use Rattle.blocks.proofs.Loops.{good_short, good_tested}
use Rattle.blocks.proofs.is_good.Goals as goal

pub returns-then-left-lt512 : goal.returns-then-left-lt512
returns-then-left-lt512 c = good_short _ _ c.if-left-lt512.true

pub is_sound-requires : goal.is_sound-requires
is_sound-requires c = omega (arith, c.most_of.ensures, most_small c.args.k)

pub returns : goal.returns
returns c =
    good_tested c.args.s.now c.args.k _ _ _ c.fewest_of.ensures c.most_of.ensures c.is_sound.ensures
