-- `closed_to` answers `closed_to`: closing from the depth d that is left answers the same at every turn.
use mathlib.Core.Path.{sym, ◌∙◌}
use native.Mathlib.Omega.{arith}
use Rattle.walking.proofs.Steps.{closed_top, closed_here, closed_less}
use Rattle.walking.proofs.closed_to.Goals as goal

pub returns-then-end_in-next : goal.returns-then-end_in-next
returns-then-end_in-next c = sym (c.loop-d.invariant ∙ closed_here _ _ _ (λ q. c.if-end_in-next.true (c.end_in.ensures ∙ q)))

pub loop-d-preserved : goal.loop-d-preserved
loop-d-preserved c = c.loop-d.invariant ∙ closed_less _ _ _ c.loop-d-test.true (sym c.end_in.ensures ∙ c.if-end_in-next.false)

pub returns : goal.returns
returns c = sym (c.loop-d.invariant ∙ closed_top c.loop-d.d _ _ (omega arith))
