-- Each case as its numbers; those of a refusal are small.
use mathlib.Core.Path.{ap, subst}
use native.Mathlib.Omega.{arith}
use Rattle.answers.specs.Answers.{SmallReply}
use Rattle.answers.proofs.Laws.{answered}
use Rattle.dgn_blocks.specs.Moves.{moved_reply}
use Rattle.dgn_blocks.proofs.put_moved.Goals as goal

pub overflow_mul-result : goal.overflow_mul-result
overflow_mul-result c = let s = subst (λ r. SmallReply (moved_reply r)) c.in-Err.is c.requires.1 in omega (arith, s.2)

pub overflow_add-result : goal.overflow_add-result
overflow_add-result c = let s = subst (λ r. SmallReply (moved_reply r)) c.in-Err.is c.requires.1 in omega (arith, s.1, s.2)

pub returns-in-Ok : goal.returns-in-Ok
returns-in-Ok c =
    answered 1 _ _ c.args.out.now (ap moved_reply c.in-Ok.is) c.requires.0

pub returns-in-Err : goal.returns-in-Err
returns-in-Err c =
    answered 1 _ _ c.args.out.now (ap moved_reply c.in-Err.is) c.requires.0
