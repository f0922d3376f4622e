-- A slice that is too short stays; any other takes the answer of each case, as the library's own contract says.
use native.Mathlib.Omega.{arith}
use mathlib.Core.Path.{ap, sym, ◌∙◌}
use lib.ListN.{length-set}
use Rattle.dgn.specs.JudgeFind.{judge_reply}
use Rattle.answers.proofs.Laws.{too_short, answered}
use Rattle.answers.proofs.Refusals.{file_small}
use Rattle.dgn.proofs.dgn_judge.Goals as goal

pub returns-then-out-lt3 : goal.returns-then-out-lt3
returns-then-out-lt3 c = too_short 3 _ (c.args.out.now) (c.if-out-lt3.true)

pub bounds-out-0 : goal.bounds-out-0
bounds-out-0 c = omega arith

pub bounds-out-1 : goal.bounds-out-1
bounds-out-1 c = simp length-set (omega arith)

pub bounds-out-2 : goal.bounds-out-2
bounds-out-2 c = simp length-set (omega arith)

pub overflow_mul-result : goal.overflow_mul-result
overflow_mul-result c = let b = file_small _ _ _ _ (sym c.judge.ensures ∙ c.in-Err.is) in omega arith

pub overflow_add-result : goal.overflow_add-result
overflow_add-result c = let b = file_small _ _ _ _ (sym c.judge.ensures ∙ c.in-Err.is) in omega arith

pub returns-in-Ok : goal.returns-in-Ok
returns-in-Ok c =
    answered 3 _ _ c.args.out.now
    (ap judge_reply (sym c.judge.ensures ∙ c.in-Ok.is)) c.if-out-lt3.false

pub returns-in-Err : goal.returns-in-Err
returns-in-Err c =
    answered 3 _ _ c.args.out.now
    (ap judge_reply (sym c.judge.ensures ∙ c.in-Err.is)) c.if-out-lt3.false
