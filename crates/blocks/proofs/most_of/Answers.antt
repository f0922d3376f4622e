-- By its three cases.
use Rattle.blocks.proofs.Turns.{most_any, most_none, most_end}
use Rattle.blocks.proofs.most_of.Goals as goal

pub returns-then-k-lt2064 : goal.returns-then-k-lt2064
returns-then-k-lt2064 c = most_any _ c.if-k-lt2064.true

pub returns-then-k-gt2064 : goal.returns-then-k-gt2064
returns-then-k-gt2064 c = most_none _ c.if-k-gt2064.true

pub returns : goal.returns
returns c = most_end _ c.if-k-lt2064.false c.if-k-gt2064.false
