-- Each way of the call; a refusal is small, so its one number fits.
use mathlib.Core.Path.{sym, ap, ◌∙◌}
use native.Mathlib.Omega.{arith}
use Rattle.curve_views.specs.CurveViews.{curve_of}
use Rattle.dgn_curve.specs.CurveReplies.{curve_reply}
use Rattle.dgn_curve.proofs.Done.{few_numbers, few_floats, replied_as, put_there}
use Rattle.dgn_curve.proofs.Small.{curve_refused_small}
use Rattle.dgn_curve.proofs.dgn_curve.Goals as goal

pub returns-then-numbers-lt7 : goal.returns-then-numbers-lt7
returns-then-numbers-lt7 c = let a = c.args in few_numbers _ a.numbers.now a.floats.now c.if-numbers-lt7.true

pub returns-then-floats-lt5 : goal.returns-then-floats-lt5
returns-then-floats-lt5 c = let a = c.args in few_floats _ a.numbers.now a.floats.now c.if-numbers-lt7.false c.if-floats-lt5.true

pub overflow_mul-result : goal.overflow_mul-result
overflow_mul-result c =
    let a = c.args in
    let small = curve_refused_small a.dim a.file.now a.place _ _ (sym c.curve_at.ensures ∙ c.in-Err.is) in omega arith

pub overflow_add-result : goal.overflow_add-result
overflow_add-result c =
    let a = c.args in
    let small = curve_refused_small a.dim a.file.now a.place _ _ (sym c.curve_at.ensures ∙ c.in-Err.is) in omega arith

pub returns-in-Err : goal.returns-in-Err
returns-in-Err c =
    let a = c.args in
    replied_as (curve_of a.dim a.file.now a.place) a.numbers.now a.floats.now c.if-numbers-lt7.false (omega arith) _ (ap curve_reply (sym c.curve_at.ensures ∙ c.in-Err.is))

pub returns-in-Ok : goal.returns-in-Ok
returns-in-Ok c =
    let a = c.args in
    put_there (curve_of a.dim a.file.now a.place) a.numbers.now a.floats.now c.if-numbers-lt7.false (omega arith) _ _ _ (sym c.curve_at.ensures ∙ c.in-Ok.is) c.put_curve.ensures.0 c.put_curve.ensures.1
