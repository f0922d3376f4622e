-- The tests are the definition's, in its order.
use mathlib.Core.Path.{sym, ◌∙◌}
use Rattle.limits.specs.Limits.{call_ok}
use Rattle.limits.proofs.call_ok.Goals as goal

pub returns-then-not-dim_ok : goal.returns-then-not-dim_ok
unfolding call_ok
returns-then-not-dim_ok c = rw (sym c.dim_ok.ensures ∙ c.if-not-dim_ok.true)

pub returns : goal.returns
unfolding call_ok
returns c = rw (sym c.dim_ok.ensures ∙ c.if-not-dim_ok.false) c.size_ok.ensures
