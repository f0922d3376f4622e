-- The header place is the top exactly where its number is 4294967295.
use mathlib.Core.Path.{refl}
use borrow.Author.Tests.{eq-eqb, ne_eqb}
use Rattle.journals.proofs.at_top_with.Goals as goal

pub returns-then-header-eq-TOP : goal.returns-then-header-eq-TOP
returns-then-header-eq-TOP c = rw (eq-eqb c.args.header 4294967295 c.if-header-eq-TOP.true) refl

pub returns : goal.returns
returns c = rw (ne_eqb c.args.header 4294967295 c.if-header-eq-TOP.false) refl
