-- Each case as its numbers, or too short a slice.
use mathlib.Core.Path.{ap}
use Rattle.answers.proofs.Laws.{too_short, answered}
use Rattle.write_answers.specs.Writing.{cut_reply}
use Rattle.write_answers.proofs.put_written.Goals as goal

pub returns-then-out-lt1 : goal.returns-then-out-lt1
returns-then-out-lt1 c = too_short 1 _ c.args.out.now c.if-out-lt1.true

pub returns-in-Ok : goal.returns-in-Ok
returns-in-Ok c =
    answered 1 _ _ c.args.out.now (ap cut_reply c.in-Ok.is) c.if-out-lt1.false

pub returns-in-Err : goal.returns-in-Err
returns-in-Err c =
    answered 1 _ _ c.args.out.now (ap cut_reply c.in-Err.is) c.if-out-lt1.false
