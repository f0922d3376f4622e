-- Either of the two tests that the definition joins.
use mathlib.Core.Path.{sym, ◌∙◌}
use Rattle.faults.proofs.gap_at.Goals as goal

pub returns-then-stands_under : goal.returns-then-stands_under
returns-then-stands_under c = rw (sym c.stands_under.ensures ∙ c.if-stands_under.true)

pub returns : goal.returns
returns c = rw (sym c.stands_under.ensures ∙ c.if-stands_under.false)
