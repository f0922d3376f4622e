-- The type says whether there is a count.
use mathlib.Core.Path.{sym}
use Rattle.elements.specs.Rules.{count_ok}
use Rattle.files.proofs.count_ok.Goals as goal

pub returns-then-is_counted : goal.returns-then-is_counted
unfolding count_ok
returns-then-is_counted c = simp (sym c.requires.0, sym c.is_counted.ensures, c.if-is_counted.true, sym c.word.ensures.is)

pub returns : goal.returns
unfolding count_ok
returns c = simp (sym c.requires.0, sym c.is_counted.ensures, c.if-is_counted.false)
