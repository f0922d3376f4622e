-- By its two cases.
use Rattle.blocks.proofs.Turns.{fewest_more, fewest_last}
use Rattle.blocks.proofs.fewest_of.Goals as goal

pub returns-then-n-gt512 : goal.returns-then-n-gt512
returns-then-n-gt512 c = fewest_more _ c.if-n-gt512.true

pub returns : goal.returns
returns c = fewest_last _ c.if-n-gt512.false
