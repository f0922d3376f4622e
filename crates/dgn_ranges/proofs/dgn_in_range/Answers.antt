-- A slice that is too short stays; any other takes the answer of each case, as the library's own contract says.
use mathlib.Core.Path.{sym, ap, ◌∙◌}
use native.Mathlib.Omega.{arith}
use Rattle.answers.proofs.Laws.{too_short, answered}
use Rattle.dgn_ranges.specs.Check.{in_range_reply}
use Rattle.dgn_ranges.proofs.Small.{refused_small}
use Rattle.dgn_ranges.proofs.dgn_in_range.Goals as goal

pub returns-then-out-lt1 : goal.returns-then-out-lt1
returns-then-out-lt1 c = too_short 1 _ c.args.out.now c.if-out-lt1.true

pub overflow_mul-result : goal.overflow_mul-result
overflow_mul-result c = let b = refused_small _ _ _ _ _ (sym c.in_range_at.ensures ∙ c.in-Err.is) in omega arith

pub overflow_add-result : goal.overflow_add-result
overflow_add-result c = let b = refused_small _ _ _ _ _ (sym c.in_range_at.ensures ∙ c.in-Err.is) in omega arith

pub returns-in-Ok : goal.returns-in-Ok
returns-in-Ok c =
    rw c.from.ensures (answered 1 _ _ c.args.out.now (ap in_range_reply (sym c.in_range_at.ensures ∙ c.in-Ok.is)) c.if-out-lt1.false)

pub returns-in-Err : goal.returns-in-Err
returns-in-Err c =
    answered 1 _ _ c.args.out.now (ap in_range_reply (sym c.in_range_at.ensures ∙ c.in-Err.is)) c.if-out-lt1.false
