-- `names::pack` meets its contract: the test is that of `packed`, and the words are those of `word_from`.
use mathlib.Core.Path.{sym, ap₂}
use Rattle.names.specs.Names.{packed}
use Rattle.names.proofs.pack.Goals as goal
use Rattle.names.specs.Name.{packed_to}

pub returns-then-good_text : goal.returns-then-good_text
unfolding packed
returns-then-good_text c =
    simp (sym c.good_text.ensures, c.if-good_text.true)
    (ap₂ packed_to c.word_from-first.ensures c.word_from-second.ensures)

pub returns-else-good_text : goal.returns-else-good_text
unfolding packed
returns-else-good_text c = simp (sym c.good_text.ensures, c.if-good_text.false)
