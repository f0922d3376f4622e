-- A slice that is too short stays; any other takes the answer, as the library's own contract says.
use Rattle.dgn_index.proofs.Small.{look_small}
use Rattle.answers.proofs.Laws.{too_short}
use Rattle.dgn_index.proofs.dgn_look_up_with_deleted.Goals as goal

pub returns-then-out-lt2 : goal.returns-then-out-lt2
returns-then-out-lt2 c = too_short 2 _ _ c.if-out-lt2.true

pub put_looked-requires : goal.put_looked-requires
put_looked-requires c = (rw c.look_up_with_deleted.ensures (look_small _ _ _), c.if-out-lt2.false)

pub returns : goal.returns
returns c = rw (← c.look_up_with_deleted.ensures) c.put_looked.ensures
