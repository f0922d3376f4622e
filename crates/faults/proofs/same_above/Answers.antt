-- The case of each is that of the definition.
use Rattle.faults.proofs.same_above.Goals as goal

pub returns-in-Under-b-2 : goal.returns-in-Under-b-2
returns-in-Under-b-2 c = rw (c.in-Under.is, c.in-Under-b-2.is)
