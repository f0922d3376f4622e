-- A slice that is too short stays; any other takes the answer, as the library's own contract says.
use Rattle.dgn.proofs.Small.{find_small}
use Rattle.answers.proofs.Laws.{too_short}
use Rattle.dgn.proofs.dgn_find.Goals as goal

pub returns-then-out-lt2 : goal.returns-then-out-lt2
returns-then-out-lt2 c = too_short 2 _ _ c.if-out-lt2.true

pub put_found-requires : goal.put_found-requires
put_found-requires c = (rw c.find.ensures (find_small _ _ _ _), c.if-out-lt2.false)

pub returns : goal.returns
returns c = rw (← c.find.ensures) c.put_found.ensures
