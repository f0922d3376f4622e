-- At the top no header grows; else the answer is that of the path down to the header.
use mathlib.Core.Path.{sym, ◌∙◌}
use Rattle.faults.proofs.room_under.Goals as goal

pub returns-in-Top : goal.returns-in-Top
returns-in-Top c = rw c.in-Top.is

pub returns-in-Fine : goal.returns-in-Fine
returns-in-Fine c = rw (c.in-Under.is, sym c.room_fault.ensures ∙ c.in-Fine.is)

pub returns-in-Full : goal.returns-in-Full
returns-in-Full c =
    rw (c.in-Under.is, sym c.room_fault.ensures ∙ c.in-Full.is)
