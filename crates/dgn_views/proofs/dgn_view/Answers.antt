-- A slice that is too short stays; any other takes the answer of each case, as the library's own contract says.
use native.Mathlib.Omega.{arith}
use mathlib.Core.Path.{sym, ap, ◌∙◌}
use Rattle.words.proofs.Laws.{lent_below}
use Rattle.view_numbers.proofs.Small.{put_as_is, view_numbers_small}
use Rattle.answers.proofs.Laws.{too_short, answered}
use Rattle.dgn_views.specs.Views.{view_reply}
use Rattle.dgn_views.proofs.Small.{refused_small}
use Rattle.dgn_views.proofs.dgn_view.Goals as goal

pub returns-then-out-lt32 : goal.returns-then-out-lt32
returns-then-out-lt32 c = too_short 32 _ _ c.if-out-lt32.true

pub overflow_mul-result : goal.overflow_mul-result
overflow_mul-result c = let b = refused_small _ _ _ _ _ (sym c.view_at.ensures ∙ c.in-Err.is) in omega arith

pub overflow_add-result : goal.overflow_add-result
overflow_add-result c = let b = refused_small _ _ _ _ _ (sym c.view_at.ensures ∙ c.in-Err.is) in omega arith

pub returns-in-Ok : goal.returns-in-Ok
returns-in-Ok c =
    let seen = sym c.view_at.ensures ∙ c.in-Ok.is in
    let small = view_numbers_small _ _ _ _ (lent_below c.args.file.now c.type_inv.file) seen in
    rw (put_as_is _ _ 0 _ _ (omega (arith, c.if-out-lt32.false)) small c.put_view.ensures)
    (answered 32 _ _ c.args.out.now (ap (view_reply c.args.place) seen) c.if-out-lt32.false)

pub returns-in-Err : goal.returns-in-Err
returns-in-Err c =
    answered 32 _ _ c.args.out.now
    (ap (view_reply c.args.place) (sym c.view_at.ensures ∙ c.in-Err.is)) c.if-out-lt32.false
