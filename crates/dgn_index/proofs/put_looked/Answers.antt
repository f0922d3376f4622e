-- The slice takes the answer of each case; `told` is the detail of a refusal as the code picks it.
use native.Mathlib.Omega.{arith}
use mathlib.Core.Path.{◌≡◌, ap, ◌∙◌}
use mathlib.Core.Bool.{cond}
use lib.Dec.{eqb}
use Rattle.cells.proofs.Counts.{picked}
use Rattle.answers.proofs.Laws.{answered}
use Rattle.dgn_index.specs.IndexNumbers.{look_detail, look_reply}
use Rattle.dgn_index.proofs.put_looked.Goals as goal
use Rattle.dgn_index.proofs.put_looked.Goals.{After-pick}

told : (c : After-pick) → c.pick.result ≡ look_detail c.in-Err.field-0.refusal.number c.in-Err.field-0.refusal.place c.in-Err.field-0.looks
told c = c.pick.ensures ∙ ap (λ k. cond (eqb c.in-Err.field-0.refusal.number 13) k c.in-Err.field-0.refusal.place) (c.pick-most.ensures ∙ picked c.in-Err.field-0.looks 524288)

pub overflow_mul-result : goal.overflow_mul-result
overflow_mul-result c =
    let small = rw c.in-Err.is at c.requires.0 in
    omega (arith, told (goal.at.overflow_mul-result c).After-pick, small.2)

pub overflow_add-result : goal.overflow_add-result
overflow_add-result c =
    let small = rw c.in-Err.is at c.requires.0 in
    omega (arith, told (goal.at.overflow_add-result c).After-pick, small.1, small.2)

pub returns-in-Ok : goal.returns-in-Ok
returns-in-Ok c =
    answered 2 _ _ c.args.out.now (ap look_reply c.in-Ok.is) c.requires.1

pub returns-in-Err : goal.returns-in-Err
returns-in-Err c =
    rw (told (goal.at.returns-in-Err c).After-pick) (answered 2 _ _ c.args.out.now (ap look_reply c.in-Err.is) c.requires.1)
