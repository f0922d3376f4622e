-- What was found has its direct header compared with the named one.
use Rattle.faults.proofs.stands_under.Goals as goal

pub returns-in-Ok : goal.returns-in-Ok
returns-in-Ok c = rw c.in-Ok.is c.same_above.ensures
