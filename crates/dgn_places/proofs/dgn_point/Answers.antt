-- As in the other calls; a coordinate fits its type.
use native.Mathlib.Omega.{arith}
use mathlib.Core.Path.{sym, ap, ◌∙◌}
use lib.ListN.{length-set}
use borrow.Author.Rules.{rules}
use mir.Syntax.{w64}
use mir.ValLaws.{to_z-of_z}
use Rattle.std.specs.Prelude.{Ok}
use Rattle.dgn_places.specs.ExtentPoint.{point_reply}
use Rattle.answers.proofs.Laws.{too_short, answered}
use Rattle.dgn_places.proofs.Small.{point_refused_small}
use Rattle.dgn_places.proofs.dgn_point.Goals as goal

pub returns-then-out-lt3 : goal.returns-then-out-lt3
returns-then-out-lt3 c = too_short 3 _ (c.args.out.now) (c.if-out-lt3.true)

pub bounds-out-0 : goal.bounds-out-0
bounds-out-0 c = omega arith

pub bounds-out-1 : goal.bounds-out-1
bounds-out-1 c = simp length-set (omega arith)

pub slice_set_of-out : goal.slice_set_of-out
slice_set_of-out c = simp length-set (omega arith)

pub bounds-out-0-in-Ok-Solid : goal.bounds-out-0-in-Ok-Solid
bounds-out-0-in-Ok-Solid c = omega arith

pub bounds-out-1-in-Ok-Solid : goal.bounds-out-1-in-Ok-Solid
bounds-out-1-in-Ok-Solid c = simp length-set (omega arith)

pub bounds-out-2 : goal.bounds-out-2
bounds-out-2 c = simp length-set (omega arith)

pub overflow_mul-result : goal.overflow_mul-result
overflow_mul-result c = let b = point_refused_small _ _ _ _ _ _ (sym c.point_at.ensures ∙ c.in-Err.is) in omega arith

pub overflow_add-result : goal.overflow_add-result
overflow_add-result c = let b = point_refused_small _ _ _ _ _ _ (sym c.point_at.ensures ∙ c.in-Err.is) in omega arith

pub shape_of-out-in-Ok-Flat : goal.shape_of-out-in-Ok-Flat
shape_of-out-in-Ok-Flat c = simp length-set

pub returns-in-Ok-Flat : goal.returns-in-Ok-Flat
returns-in-Ok-Flat c =
    rw (to_z-of_z w64 c.in-Ok-Flat.x (search rules), to_z-of_z w64 c.in-Ok-Flat.y (search rules))
    (answered 3 _ _ c.args.out.now
    (ap point_reply (sym c.point_at.ensures ∙ c.in-Ok-Flat.is ∙ ap Ok c.in-Ok-Flat.field-0-is)) c.if-out-lt3.false)

pub shape_of-out-in-Ok-Solid : goal.shape_of-out-in-Ok-Solid
shape_of-out-in-Ok-Solid c = simp length-set

pub returns-in-Ok-Solid : goal.returns-in-Ok-Solid
returns-in-Ok-Solid c =
    rw (to_z-of_z w64 c.in-Ok-Solid.x (search rules), to_z-of_z w64 c.in-Ok-Solid.y (search rules), to_z-of_z w64 c.in-Ok-Solid.z (search rules))
    (answered 3 _ _ c.args.out.now
    (ap point_reply (sym c.point_at.ensures ∙ c.in-Ok-Solid.is ∙ ap Ok c.in-Ok-Solid.field-0-is)) c.if-out-lt3.false)

pub returns-in-Err : goal.returns-in-Err
returns-in-Err c =
    answered 3 _ _ c.args.out.now
    (ap point_reply (sym c.point_at.ensures ∙ c.in-Err.is)) c.if-out-lt3.false
