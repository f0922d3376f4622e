-- The extent of an element that is found lies in the file (`spotted_inside`), so it is a part of the slice.
use mathlib.Core.Path.{sym, ◌∙◌}
use native.Mathlib.Omega.{arith}
use Rattle.places.specs.Extents.{extent_answer, extent_bytes}
use Rattle.places.proofs.Places.{Inside, spotted_inside}
use Rattle.places.proofs.extent_at.Goals as goal
use Rattle.places.proofs.extent_at.Goals.{In-Ok}

-- the extent lies in the file
inside : (c : In-Ok) → Inside c.args.dim c.args.file.now c.args.place c.in-Ok.spot.end
inside c = spotted_inside _ _ _ _ _ _ (sym c.spotted_at.ensures ∙ c.in-Ok.is)

pub overflow_mul-a : goal.overflow_mul-a
overflow_mul-a c = omega (arith, inside (goal.at.overflow_mul-a c).In-Ok)

pub overflow_mul-e : goal.overflow_mul-e
overflow_mul-e c = omega (arith, inside (goal.at.overflow_mul-e c).In-Ok)

pub slice_bounds-result-count : goal.slice_bounds-result-count
slice_bounds-result-count c = omega (arith, inside (goal.at.slice_bounds-result-count c).In-Ok)

pub slice_bounds-result-start : goal.slice_bounds-result-start
slice_bounds-result-start c = omega (arith, inside (goal.at.slice_bounds-result-start c).In-Ok)

pub slice_bounds-result-end : goal.slice_bounds-result-end
slice_bounds-result-end c = omega (arith, inside (goal.at.slice_bounds-result-end c).In-Ok)

pub returns-in-Ok : goal.returns-in-Ok
unfolding extent_answer extent_bytes
returns-in-Ok c = rw (sym c.spotted_at.ensures ∙ c.in-Ok.is)

pub returns-in-Err : goal.returns-in-Err
unfolding extent_answer extent_bytes
returns-in-Err c = rw (sym c.spotted_at.ensures ∙ c.in-Err.is)
