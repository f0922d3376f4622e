-- By the two tests.
use mathlib.Core.Path.{refl}
use Rattle.indexed.proofs.told.Goals as goal

pub returns-then-full : goal.returns-then-full
returns-then-full c = rw (c.if-full.true) (c.pick.ensures)

pub returns : goal.returns
returns c = rw (c.if-full.false) refl
