-- At the top nothing changes; else the answer is that of the path down to the header.
use Rattle.changes.proofs.correct_under.Goals as goal

pub returns-in-Under : goal.returns-in-Under
returns-in-Under c =
    rw c.in-Under.is c.correct_totals.ensures
