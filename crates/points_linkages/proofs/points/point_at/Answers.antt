-- The numbers from which the place of a point is computed are small (`point_small`), so no sum wraps.
use Prim.Native.Nat.{◌*◌, ◌≤◌}
use mathlib.Core.Path.{sym, ◌∙◌}
use native.Mathlib.Omega.{arith}
use Rattle.std.proofs.lemmas.Result.{err_from_is_err_and}
use Rattle.words.proofs.Laws.{lent_below}
use Rattle.points_linkages.specs.Points.{point_of}
use Rattle.places.proofs.Places.{Inside, spotted_inside}
use Rattle.points_linkages.proofs.Numbered.{point_small, point_there, point_none}
use Rattle.points_linkages.proofs.points.point_at.Goals as goal
use Rattle.points_linkages.proofs.points.point_at.Goals.{After-before_points, In_ok-spotted_at}

-- the element lies in the file
inside : (c : In_ok-spotted_at) → Inside c.args.dim c.args.file.now c.args.place c.in_ok-spotted_at.field-0.end
inside c = spotted_inside _ _ _ _ _ _ (sym c.spotted_at.ensures ∙ c.in_ok-spotted_at.was)

-- and the place of the point is not far from its own
small : (c : After-before_points) → (c.before_points.result ≤ 19) × (2 * c.args.dim ≤ 6) × (2 * c.args.dim * c.args.k ≤ 393216)
small c =
    let s = c.args.file.now in
    point_small s (lent_below s c.type_inv.file) _ _ _ _ _ (spotted_inside _ _ _ _ _ _ (sym c.spotted_at.ensures ∙ c.in_ok-spotted_at.was)).call
    c.point_count.ensures c.if-k-point_count.true c.before_points.ensures

pub overflow_add-first : goal.overflow_add-first
overflow_add-first c = omega (arith, inside (goal.at.overflow_add-first c).In_ok-spotted_at, small (goal.at.overflow_add-first c).After-before_points)

pub overflow_mul-first : goal.overflow_mul-first
overflow_mul-first c = omega (arith, small (goal.at.overflow_mul-first c).After-before_points)

pub overflow_mul-first-then-k-point_count : goal.overflow_mul-first-then-k-point_count
overflow_mul-first-then-k-point_count c = omega (arith, small (goal.at.overflow_mul-first-then-k-point_count c).After-before_points)

pub overflow_add-first-then-k-point_count : goal.overflow_add-first-then-k-point_count
overflow_add-first-then-k-point_count c = omega (arith, inside (goal.at.overflow_add-first-then-k-point_count c).In_ok-spotted_at, small (goal.at.overflow_add-first-then-k-point_count c).After-before_points)

pub point_from-requires : goal.point_from-requires
point_from-requires c = omega (arith, inside (goal.at.point_from-requires c).In_ok-spotted_at, small (goal.at.point_from-requires c).After-before_points)

pub returns-then-k-point_count : goal.returns-then-k-point_count
returns-then-k-point_count c =
    c.point_from.ensures ∙ point_there _ _ _ _ _ _ _
    (sym c.spotted_at.ensures ∙ c.in_ok-spotted_at.was) _
    c.point_count.ensures _ c.before_points.ensures c.if-k-point_count.true

pub returns : goal.returns
returns c = point_none _ _ _ _ _ _ _ (sym c.spotted_at.ensures ∙ c.in_ok-spotted_at.was) _ c.point_count.ensures c.if-k-point_count.false

pub returns-in_err-spotted_at : goal.returns-in_err-spotted_at
unfolding point_of
returns-in_err-spotted_at c =
    let p = err_from_is_err_and c.from_residual.result c.from_residual.ensures.1 in
    rw (p.1, p.2, sym c.spotted_at.ensures ∙ c.in_err-spotted_at.was)
