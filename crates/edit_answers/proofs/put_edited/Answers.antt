-- Too short a slice, or each case as its numbers.
use mathlib.Core.Path.{ap}
use mathlib.Core.Option.{none}
use Rattle.answers.proofs.Laws.{too_short, answered}
use Rattle.edit_answers.specs.Editing.{cut_reply}
use Rattle.edit_answers.proofs.put_edited.Goals as goal

pub returns-then-out-lt2 : goal.returns-then-out-lt2
returns-then-out-lt2 c = too_short 2 _ c.args.out.now c.if-out-lt2.true

pub returns-in-Ok : goal.returns-in-Ok
returns-in-Ok c = answered 2 _ _ c.args.out.now (ap (λ a. cut_reply a none) c.in-Ok.is) c.if-out-lt2.false

pub returns-in-Err : goal.returns-in-Err
returns-in-Err c = answered 2 _ _ c.args.out.now (ap (λ a. cut_reply a none) c.in-Err.is) c.if-out-lt2.false
