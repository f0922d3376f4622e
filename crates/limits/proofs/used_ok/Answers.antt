-- The tests are the definition's, in its order.
use mathlib.Core.Path.{sym, ◌∙◌}
use borrow.Author.Tests.{eq-eqb, ne_eqb}
use Rattle.limits.proofs.used_ok.Goals as goal

pub returns-then-not-size_ok : goal.returns-then-not-size_ok
returns-then-not-size_ok c = rw (sym c.size_ok.ensures ∙ c.if-not-size_ok.true)

pub returns-then-used-ne0 : goal.returns-then-used-ne0
returns-then-used-ne0 c = rw (sym c.size_ok.ensures ∙ c.if-not-size_ok.false, ne_eqb _ _ c.if-used-ne0.true)

pub returns : goal.returns
returns c = rw (sym c.size_ok.ensures ∙ c.if-not-size_ok.false, eq-eqb _ _ c.if-used-ne0.false)
