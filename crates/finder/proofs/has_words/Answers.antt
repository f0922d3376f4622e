-- `has_words` compares the two words as they are read, the second only where the first is the same.
use borrow.Author.Tests.{eq-eqb, ne_eqb}
use Rattle.finder.proofs.has_words.Goals as goal

pub returns-then-word-name : goal.returns-then-word-name
returns-then-word-name c = rw (← c.word.ensures.is, ← c.word-then-word-name.ensures.is, eq-eqb _ _ c.if-word-name.true)

pub returns : goal.returns
returns c = rw (← c.word.ensures.is, ne_eqb _ _ c.if-word-name.false)
