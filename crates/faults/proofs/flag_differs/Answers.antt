-- The case of the wanted flag is that of the definition.
use Rattle.faults.proofs.flag_differs.Goals as goal

pub returns-then-deleted : goal.returns-then-deleted
returns-then-deleted c = rw c.if-deleted.true

pub returns : goal.returns
returns c = rw c.if-deleted.false
