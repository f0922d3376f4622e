-- Each way of the call.
use mathlib.Core.Path.{sym, ap, ◌∙◌}
use native.Mathlib.Omega.{arith}
use Rattle.answers.proofs.Laws.{too_short, answered}
use Rattle.dgn_text.specs.TextReplies.{characters_reply}
use Rattle.dgn_text.proofs.Small.{characters_refused_small}
use Rattle.dgn_text.proofs.dgn_characters.Goals as goal

pub returns-then-out-lt2 : goal.returns-then-out-lt2
returns-then-out-lt2 c = too_short 2 _ c.args.out.now c.if-out-lt2.true

pub overflow_mul-result : goal.overflow_mul-result
overflow_mul-result c = let b = characters_refused_small _ _ _ _ _ (sym c.characters_answer.ensures ∙ c.in-Err.is) in omega arith

pub overflow_add-result : goal.overflow_add-result
overflow_add-result c = let b = characters_refused_small _ _ _ _ _ (sym c.characters_answer.ensures ∙ c.in-Err.is) in omega arith

pub returns-in-Ok : goal.returns-in-Ok
returns-in-Ok c =
    answered 2 _ _ c.args.out.now (ap characters_reply (sym c.characters_answer.ensures ∙ c.in-Ok.is)) c.if-out-lt2.false

pub returns-in-Err : goal.returns-in-Err
returns-in-Err c =
    answered 2 _ _ c.args.out.now (ap characters_reply (sym c.characters_answer.ensures ∙ c.in-Err.is)) c.if-out-lt2.false
