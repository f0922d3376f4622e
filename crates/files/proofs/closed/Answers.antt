-- By how far the elements were judged; with the bound as its place no list stops before its end.
use mathlib.Core.Path.{sym, ◌∙◌}
use Rattle.files.proofs.Reaching.{halted_done, halted_lacking, halted_more, broken_list, never_stops}
use Rattle.files.proofs.closed.Goals as goal

pub returns-in-Stopped : goal.returns-in-Stopped
returns-in-Stopped c dim under at x = absurd (never_stops (rw c.in-Stopped.is at x))

pub returns-in-Done : goal.returns-in-Done
returns-in-Done c dim under at x =
    halted_done (rw c.in-Halted.is at x) (sym c.stop_at.ensures ∙ c.in-Done.is)

pub returns-in-Lacking : goal.returns-in-Lacking
returns-in-Lacking c dim under at x =
    halted_lacking (rw c.in-Halted.is at x) (sym c.stop_at.ensures ∙ c.in-Lacking.is)

pub returns-in-More : goal.returns-in-More
returns-in-More c dim under at x =
    halted_more (rw c.in-Halted.is at x) (sym c.stop_at.ensures ∙ c.in-More.is)

pub returns-in-Broken : goal.returns-in-Broken
returns-in-Broken c dim under at x = broken_list (rw c.in-Broken.is at x)
