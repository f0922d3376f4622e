-- `names::name_ok` meets its contract: its tests are those of `name_ok`, in the same order.
use mathlib.Core.Path.{sym}
use Rattle.names.specs.Names.{name_ok}
use Rattle.names.proofs.name_ok.Goals as goal

pub returns-then-word_ok : goal.returns-then-word_ok
unfolding name_ok
returns-then-word_ok c = simp (sym c.word_ok.ensures, c.if-word_ok.true) c.word_ok-then-word_ok.ensures

pub returns-else-word_ok : goal.returns-else-word_ok
unfolding name_ok
returns-else-word_ok c = simp (sym c.word_ok.ensures, c.if-word_ok.false)
