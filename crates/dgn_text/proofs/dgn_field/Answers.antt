-- Each way of the call; the three numbers fit their type.
use mathlib.Core.Path.{sym, ap, ◌∙◌}
use native.Mathlib.Omega.{arith}
use lib.ListN.{length-set}
use borrow.Author.Rules.{rules}
use mir.Syntax.{w64}
use mir.ValLaws.{to_z_pos, to_z-of_z}
use Rattle.answers.proofs.Laws.{too_short, answered}
use Rattle.dgn_text.specs.TextReplies.{field_reply}
use Rattle.dgn_text.proofs.Small.{field_refused_small}
use Rattle.dgn_text.proofs.dgn_field.Goals as goal

pub returns-then-out-lt3 : goal.returns-then-out-lt3
returns-then-out-lt3 c = too_short 3 _ c.args.out.now c.if-out-lt3.true

pub bounds-out-1 : goal.bounds-out-1
bounds-out-1 c = simp length-set (omega arith)

pub overflow_mul-result : goal.overflow_mul-result
overflow_mul-result c = let b = field_refused_small _ _ _ _ _ _ (sym c.field_at.ensures ∙ c.in-Err.is) in omega arith

pub overflow_add-result : goal.overflow_add-result
overflow_add-result c = let b = field_refused_small _ _ _ _ _ _ (sym c.field_at.ensures ∙ c.in-Err.is) in omega arith

pub returns-in-Ok : goal.returns-in-Ok
returns-in-Ok c =
    rw (to_z_pos w64 c.in-Ok.field.first (omega arith), to_z_pos w64 c.in-Ok.field.length (omega arith), to_z-of_z w64 c.in-Ok.field.justification (search rules))
    (answered 3 _ _ c.args.out.now (ap field_reply (sym c.field_at.ensures ∙ c.in-Ok.is)) c.if-out-lt3.false)

pub returns-in-Err : goal.returns-in-Err
returns-in-Err c =
    answered 3 _ _ c.args.out.now (ap field_reply (sym c.field_at.ensures ∙ c.in-Err.is)) c.if-out-lt3.false
