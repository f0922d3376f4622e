-- By the test of the dimension; the axes stand at word 22 at the latest.
use Prim.Native.Nat.{ℕ, ◌+◌}
use mathlib.Core.Path.{ap}
use native.Mathlib.Omega.{arith}
use borrow.Author.Tests.{ne_eqb}
use Rattle.curves.proofs.Laws.{axes_early}
use Rattle.curves.proofs.origin_word.Goals as goal

pub overflow_add-turn : goal.overflow_add-turn
overflow_add-turn c = omega (arith, c.axes_word-turn.ensures, axes_early c.args.t)

pub overflow_add-result : goal.overflow_add-result
overflow_add-result c = omega (arith, c.axes_word-turn.ensures, axes_early c.args.t)

pub overflow_add-result-else-dim-eq2 : goal.overflow_add-result-else-dim-eq2
overflow_add-result-else-dim-eq2 c = omega (arith, c.axes_word-turn.ensures, axes_early c.args.t)

pub returns-then-dim-eq2 : goal.returns-then-dim-eq2
returns-then-dim-eq2 c = rw c.if-dim-eq2.true (ap (λ (n : ℕ). n + 8 + 2) c.axes_word-turn.ensures)

pub returns-else-dim-eq2 : goal.returns-else-dim-eq2
returns-else-dim-eq2 c = rw (ne_eqb _ 2 c.if-dim-eq2.false) (ap (λ (n : ℕ). n + 8 + 8) c.axes_word-turn.ensures)
