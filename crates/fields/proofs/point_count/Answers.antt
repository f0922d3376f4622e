-- A dimension is 2 or 3; what is neither is none.
use mathlib.Core.Path.{sym, ap, ◌∙◌}
use Prim.Native.Nat.{◌/◌}
use mathlib.Core.Bool.{cond}
use borrow.Author.Tests.{ne_eqb}
use Rattle.limits.specs.Limits.{dim_ok}
use Rattle.fields.proofs.point_count.Goals as goal

pub returns-then-dim-eq2 : goal.returns-then-dim-eq2
returns-then-dim-eq2 c = sym (ap (λ d. cond (dim_ok d) (c.args.n / d) 0) c.if-dim-eq2.true)

pub returns-then-dim-eq3 : goal.returns-then-dim-eq3
returns-then-dim-eq3 c =
    c.third.ensures ∙ sym (ap (λ d. cond (dim_ok d) (c.args.n / d) 0) c.if-dim-eq3.true)

pub returns : goal.returns
returns c = simp (ne_eqb _ _ c.if-dim-eq2.false, ne_eqb _ _ c.if-dim-eq3.false)
