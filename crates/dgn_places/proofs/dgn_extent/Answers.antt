-- A slice that is too short stays; any other takes the answer of each case, as the library's own contract says.
use native.Mathlib.Omega.{arith}
use mathlib.Core.Path.{ap, sym, ◌∙◌}
use lib.ListN.{length-set}
use Rattle.dgn_places.specs.ExtentPoint.{extent_reply}
use Rattle.answers.proofs.Laws.{too_short, answered}
use Rattle.dgn_places.proofs.Small.{extent_refused_small}
use Rattle.dgn_places.proofs.dgn_extent.Goals as goal

pub returns-then-out-lt2 : goal.returns-then-out-lt2
returns-then-out-lt2 c = too_short 2 _ (c.args.out.now) (c.if-out-lt2.true)

pub bounds-out-0 : goal.bounds-out-0
bounds-out-0 c = omega arith

pub bounds-out-1 : goal.bounds-out-1
bounds-out-1 c = simp length-set (omega arith)

pub overflow_mul-result : goal.overflow_mul-result
overflow_mul-result c = let b = extent_refused_small _ _ _ _ _ (sym c.extent_answer.ensures ∙ c.in-Err.is) in omega arith

pub overflow_add-result : goal.overflow_add-result
overflow_add-result c = let b = extent_refused_small _ _ _ _ _ (sym c.extent_answer.ensures ∙ c.in-Err.is) in omega arith

pub shape_of-out : goal.shape_of-out
shape_of-out c = simp length-set

pub returns-in-Ok : goal.returns-in-Ok
returns-in-Ok c =
    answered 2 _ _ c.args.out.now
    (ap extent_reply (sym c.extent_answer.ensures ∙ c.in-Ok.is)) c.if-out-lt2.false

pub returns-in-Err : goal.returns-in-Err
returns-in-Err c =
    answered 2 _ _ c.args.out.now
    (ap extent_reply (sym c.extent_answer.ensures ∙ c.in-Err.is))
    c.if-out-lt2.false
