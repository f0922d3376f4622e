-- By the two cases.
use Rattle.finder.proofs.is_wanted.Goals as goal

pub returns-in-Live : goal.returns-in-Live
returns-in-Live c = rw c.in-Live.is c.is_live.ensures
