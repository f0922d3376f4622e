-- The type decides which of the definition's two tests is asked; a dimension is 2 or 3, so the product fits, and what the whole
-- points leave of the coordinates is the remainder (`counted_left`).
use Prim.Native.Nat.{◌≤◌}
use mathlib.Core.Path.{ap}
use native.Mathlib.Omega.{arith}
use lib.Dec.{eqb}
use borrow.Author.Tests.{eq-eqb, ne_eqb}
use Rattle.fields.specs.Faults.{points_fit}
use Rattle.limits.proofs.Dimensions.{by_dims}
use Rattle.fields.proofs.Bounds.{counted_left}
use Rattle.fields.proofs.points_fit.Goals as goal

pub overflow_mul-result : goal.overflow_mul-result
overflow_mul-result c = let h = by_dims (λ d. d ≤ 3) (c.args.dim) (c.requires) (omega arith) (omega arith) in omega arith

pub returns-then-kind-eq3 : goal.returns-then-kind-eq3
unfolding points_fit
returns-then-kind-eq3 c = simp (eq-eqb _ _ (c.if-kind-eq3.true))

pub overflow_mul-result-2 : goal.overflow_mul-result-2
overflow_mul-result-2 c =
    let h = (counted_left c.args.dim c.args.n c.requires c.point_count-count.ensures).0 in omega arith

pub overflow_sub-result : goal.overflow_sub-result
overflow_sub-result c = (counted_left c.args.dim c.args.n c.requires c.point_count-count.ensures).0

pub returns : goal.returns
unfolding points_fit
returns c =
    simp (ne_eqb _ _ c.if-kind-eq3.false)
    (ap (λ m. eqb m 0) (counted_left c.args.dim c.args.n c.requires c.point_count-count.ensures).1)
