-- The slice takes the answer of each case.
use native.Mathlib.Omega.{arith}
use mathlib.Core.Path.{ap}
use Rattle.answers.proofs.Laws.{answered}
use Rattle.dgn.specs.JudgeFind.{find_reply}
use Rattle.dgn.proofs.put_found.Goals as goal

pub overflow_mul-result : goal.overflow_mul-result
overflow_mul-result c =
    let small = rw c.in-Err.is at c.requires.0 in
    omega (arith, c.pick.ensures, small.2)

pub overflow_add-result : goal.overflow_add-result
overflow_add-result c =
    let small = rw c.in-Err.is at c.requires.0 in
    omega (arith, c.pick.ensures, small.1, small.2)

pub returns-in-Ok : goal.returns-in-Ok
returns-in-Ok c =
    answered 2 _ _ c.args.out.now (ap find_reply c.in-Ok.is) c.requires.1

pub returns-in-Err : goal.returns-in-Err
returns-in-Err c =
    rw c.pick.ensures (answered 2 _ _ c.args.out.now (ap find_reply c.in-Err.is) c.requires.1)
