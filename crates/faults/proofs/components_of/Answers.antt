-- The case of the header is that of the definition.
use Rattle.faults.proofs.components_of.Goals as goal

pub returns-in-Top : goal.returns-in-Top
returns-in-Top c = rw c.in-Top.is

pub returns-in-Under : goal.returns-in-Under
returns-in-Under c = rw c.in-Under.is c.components_under.ensures
