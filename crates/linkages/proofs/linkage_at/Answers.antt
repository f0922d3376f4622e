-- The words read and the test of bit 12 are rewritten in the definition.
use mathlib.Core.Path.{sym}
use borrow.Author.Tests.{eq-eqb, ne_eqb}
use Rattle.linkages.proofs.linkage_at.Goals as goal

pub returns-then-w-eq1 : goal.returns-then-w-eq1
returns-then-w-eq1 c = simp (sym c.word-w.ensures.is, sym c.linkage_words-size.ensures, sym c.word-id.ensures.is, eq-eqb _ _ c.if-w-eq1.true)

pub returns : goal.returns
returns c = simp (sym c.word-w.ensures.is, sym c.linkage_words-size.ensures, ne_eqb _ _ c.if-w-eq1.false)
