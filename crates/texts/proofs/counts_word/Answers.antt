-- Each return has the value of the test before it.
use borrow.Author.Tests.{ne_eqb}
use Rattle.texts.proofs.counts_word.Goals as goal

pub returns-then-dim-eq2 : goal.returns-then-dim-eq2
returns-then-dim-eq2 c = simp c.if-dim-eq2.true

pub returns-else-dim-eq2 : goal.returns-else-dim-eq2
returns-else-dim-eq2 c = simp (ne_eqb _ _ c.if-dim-eq2.false)
