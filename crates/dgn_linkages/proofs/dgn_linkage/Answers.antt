-- A slice that is too short stays; any other takes the answer of each case, as the library's own contract says.
use native.Mathlib.Omega.{arith}
use mathlib.Core.Path.{ap, sym, ◌∙◌}
use lib.ListN.{length-set}
use Rattle.dgn_linkages.specs.LinkageNumbers.{linkage_reply}
use Rattle.answers.proofs.Laws.{too_short, answered}
use Rattle.dgn_linkages.proofs.Small.{refused_small}
use Rattle.dgn_linkages.proofs.dgn_linkage.Goals as goal

pub returns-then-out-lt4 : goal.returns-then-out-lt4
returns-then-out-lt4 c = too_short 4 _ (c.args.out.now) (c.if-out-lt4.true)

pub bounds-out-1 : goal.bounds-out-1
bounds-out-1 c = simp length-set (omega arith)

pub bounds-out-2 : goal.bounds-out-2
bounds-out-2 c = simp length-set (omega arith)

pub overflow_mul-result : goal.overflow_mul-result
overflow_mul-result c = let b = refused_small _ _ _ _ _ _ (sym c.linkage_at.ensures ∙ c.in-Err.is) in omega arith

pub overflow_add-result : goal.overflow_add-result
overflow_add-result c = let b = refused_small _ _ _ _ _ _ (sym c.linkage_at.ensures ∙ c.in-Err.is) in omega arith

pub returns-in-Ok : goal.returns-in-Ok
returns-in-Ok c =
    rw c.pick-kind.ensures
    (answered 4 _ _ c.args.out.now
    (ap linkage_reply (sym c.linkage_at.ensures ∙ c.in-Ok.is))
    c.if-out-lt4.false)

pub returns-in-Err : goal.returns-in-Err
returns-in-Err c =
    answered 4 _ _ c.args.out.now
    (ap linkage_reply (sym c.linkage_at.ensures ∙ c.in-Err.is)) c.if-out-lt4.false
