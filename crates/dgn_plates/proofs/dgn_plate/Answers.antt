-- A slice that is too short stays; any other takes the answer of each case, by what is found at the place.
use mathlib.Core.Path.{sym, ap, ◌∙◌}
use native.Mathlib.Omega.{arith}
use Rattle.answers.proofs.Laws.{too_short, answered}
use Rattle.dgn_plates.specs.Answers.{plate_reply}
use Rattle.dgn_plates.proofs.Small.{refused_small}
use Rattle.dgn_plates.proofs.Puts.{plate_put, plate_other, refused_plate}
use Rattle.dgn_plates.proofs.dgn_plate.Goals as goal

pub returns-then-out-lt9 : goal.returns-then-out-lt9
returns-then-out-lt9 c = too_short 9 _ _ c.if-out-lt9.true

pub returns-then-put_cell : goal.returns-then-put_cell
returns-then-put_cell c =
    let a = c.args in
    plate_put _ a.file.now _ _ _ _ (sym c.spotted_at.ensures ∙ c.in_default.is) a.out.now c.if-out-lt9.false _ _ c.put_cell.ensures c.if-put_cell.true

pub overflow_mul-result : goal.overflow_mul-result
overflow_mul-result c = let b = refused_small _ _ _ _ _ (refused_plate _ _ _ _ _ (sym c.spotted_at.ensures ∙ c.in-Err.is)) in omega arith

pub overflow_add-result : goal.overflow_add-result
overflow_add-result c = let b = refused_small _ _ _ _ _ (refused_plate _ _ _ _ _ (sym c.spotted_at.ensures ∙ c.in-Err.is)) in omega arith

pub returns : goal.returns
returns c =
    let a = c.args in
    plate_other _ a.file.now _ _ _ _ (sym c.spotted_at.ensures ∙ c.in_default.is) a.out.now c.if-out-lt9.false _ _ c.put_cell.ensures c.if-put_cell.false

pub returns-in-Err : goal.returns-in-Err
returns-in-Err c =
    let a = c.args in
    answered 9 _ _ a.out.now (ap plate_reply (refused_plate _ _ _ _ _ (sym c.spotted_at.ensures ∙ c.in-Err.is))) c.if-out-lt9.false
