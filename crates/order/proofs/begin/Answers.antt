-- The room, then what the file is judged; the place of a refused file is small.
use mathlib.Core.Path.{◌≡◌, refl, sym, ◌∙◌}
use native.Mathlib.Omega.{arith}
use borrow.Author.Tests.{le-leb, lt-leb}
use Rattle.answers.proofs.Refusals.{file_small}
use Rattle.order.specs.Calls.{begun_by, begun_of}
use Rattle.order.proofs.begin.Goals as goal
use Rattle.order.proofs.begin.Goals.{After-judge}
use Rattle.std.specs.Prelude.{Result}
use Rattle.files.specs.declared.Accepted.{Accepted}
use Rattle.refusals.specs.declared.Refusal.{Refusal}

pub returns-then-room-needed : goal.returns-then-room-needed
unfolding begun_of
returns-then-room-needed c = rw (lt-leb _ _ c.if-room-needed.true)

pub overflow_mul-result : goal.overflow_mul-result
overflow_mul-result c = omega (arith, file_small _ _ _ _ (sym c.judge.ensures ∙ c.in-Err.is))

pub overflow_add-result : goal.overflow_add-result
overflow_add-result c = omega (arith, file_small _ _ _ _ (sym c.judge.ensures ∙ c.in-Err.is))

-- by what the file is judged
judged : (c : After-judge) (v : Result Accepted Refusal) → c.judge.result ≡ v → begun_by v ≡ begun_of c.args.dim c.args.file.now c.args.needed c.args.room
unfolding begun_of
judged c v e = rw (le-leb _ _ c.if-room-needed.false, sym c.judge.ensures, e) refl

pub returns-in-Err : goal.returns-in-Err
returns-in-Err c = judged (goal.at.returns-in-Err c).After-judge _ c.in-Err.is

pub returns-in-Ok : goal.returns-in-Ok
returns-in-Ok c = judged (goal.at.returns-in-Ok c).After-judge _ c.in-Ok.is
