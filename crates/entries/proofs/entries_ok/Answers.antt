-- The test of whole entries decides, then that of the buffer's length.
use borrow.Author.Tests.{eq-eqb, ne_eqb}
use mathlib.Core.Path.{refl}
use Rattle.entries.proofs.entries_ok.Goals as goal

pub returns-then-used-ne0 : goal.returns-then-used-ne0
returns-then-used-ne0 c = rw (ne_eqb _ _ c.if-used-ne0.true) refl

pub returns : goal.returns
returns c = rw (eq-eqb _ _ c.if-used-ne0.false) refl
