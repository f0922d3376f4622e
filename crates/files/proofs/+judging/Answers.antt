-- The ways on and out are in proofs/Going.
use mathlib.Core.Path.{refl, sym, ◌∙◌}
use native.Mathlib.Omega.{arith}
use Rattle.std.proofs.lemmas.Result.{err_from_is_err_and}
use Rattle.files.proofs.Laws.{list_none}
use Rattle.files.proofs.Going.{as_bound, going_none, head_plain, head_complex, good_plain, more_complex, fault_beneath, good_complex, fault_count, plain_stops, plain_goes, header_stops, going_halted, going_broken, going_stopped, going_on, depth_plain, depth_complex}
use Rattle.files.proofs.+judging.Goals as goal

pub judge_element-count_ok-requires : goal.judge_element-count_ok-requires
judge_element-count_ok-requires t c = (c.type_at-t.ensures, omega arith)

pub judge_element-returns-then-count_ok : goal.judge_element-returns-then-count_ok
judge_element-returns-then-count_ok t c under bound h = good_complex h refl c.type_at-t.ensures (list_none _ _ _ _ c.if-inner-end.true) refl c.count_ok.ensures c.if-count_ok.true (omega arith)

pub judge_element-returns-then-inner-end : goal.judge_element-returns-then-inner-end
judge_element-returns-then-inner-end t c under bound h = fault_count h refl c.type_at-t.ensures (list_none _ _ _ _ c.if-inner-end.true) refl c.count_ok.ensures c.if-count_ok.false

pub judge_element-overflow_add-depth : goal.judge_element-overflow_add-depth
judge_element-overflow_add-depth t c = omega arith

pub judge_element-judge_list-components-requires : goal.judge_element-judge_list-components-requires
judge_element-judge_list-components-requires t c = omega arith

pub judge_element-overflow_add-depth-2 : goal.judge_element-overflow_add-depth-2
judge_element-overflow_add-depth-2 t c = omega arith

pub judge_element-count_ok-requires-2 : goal.judge_element-count_ok-requires-2
judge_element-count_ok-requires-2 t c = (c.type_at-t.ensures, omega arith)

pub judge_element-overflow_add-result : goal.judge_element-overflow_add-result
judge_element-overflow_add-result t c =
    let l = c.in_ok-list.ensures _ _ _ c.judge_list-components.ensures in
    omega (arith, l.within)

pub judge_element-returns-in_err-list : goal.judge_element-returns-in_err-list
judge_element-returns-in_err-list t c under bound h =
    let p = err_from_is_err_and c.from_residual.result c.from_residual.ensures.1 in
    rw (p.1, p.2) (fault_beneath h refl c.type_at-t.ensures (c.in_err-list.ensures _ _ _ c.judge_list-components.ensures) refl)

pub judge_element-returns-then-count_ok-2 : goal.judge_element-returns-then-count_ok-2
judge_element-returns-then-count_ok-2 t c under bound h =
    good_complex h refl c.type_at-t.ensures
    (c.in_ok-list.ensures _ _ _ c.judge_list-components.ensures) refl
    c.count_ok-2.ensures c.if-count_ok-2.true c.larger.ensures

pub judge_element-returns : goal.judge_element-returns
judge_element-returns t c under bound h =
    fault_count h refl c.type_at-t.ensures
    (c.in_ok-list.ensures _ _ _ c.judge_list-components.ensures) refl
    c.count_ok-2.ensures c.if-count_ok-2.false

pub judge_list-loop-number-init : goal.judge_list-loop-number-init
judge_list-loop-number-init t c = going_none

pub judge_list-overflow_add-result : goal.judge_list-overflow_add-result
judge_list-overflow_add-result t c =
    let gone = c.loop-number.invariant.gone in
    omega (arith, gone.words_each, gone.inside)

pub judge_list-returns-in-Bad : goal.judge_list-returns-in-Bad
judge_list-returns-in-Bad t c =
    rw (sym (as_bound c.smaller-last.ensures c.requires))
    (going_halted c.loop-number.invariant c.head_at.ensures c.in-Bad.is
    c.depth_of-d.ensures)

pub judge_list-overflow_add-direct : goal.judge_list-overflow_add-direct
judge_list-overflow_add-direct t c =
    let gone = c.loop-number.invariant.gone in
    omega (arith, rw c.in-Plain.is at c.head_at.ensures.within, gone.words_each, gone.direct)

pub judge_list-overflow_add-result-then-until-next : goal.judge_list-overflow_add-result-then-until-next
judge_list-overflow_add-result-then-until-next t c =
    omega (arith, rw c.in-Plain.is at c.head_at.ensures.within, c.loop-number.invariant.gone.words_each)

pub judge_list-returns-then-until-next : goal.judge_list-returns-then-until-next
judge_list-returns-then-until-next t c =
    rw (sym (as_bound c.smaller-last.ensures c.requires))
    (going_stopped c.loop-number.invariant (good_plain c.head_at.ensures c.in-Plain.is)
    (plain_stops _ _ _ _ _ (head_plain c.head_at.ensures c.in-Plain.is) c.if-until-next.true)
    (omega arith) (depth_plain c.loop-number.invariant c.larger-d.ensures))

pub judge_list-loop-number-smaller-in-Plain : goal.judge_list-loop-number-smaller-in-Plain
judge_list-loop-number-smaller-in-Plain t c = omega (arith, rw c.in-Plain.is at c.head_at.ensures.within)

pub judge_list-loop-number-preserved-in-Plain : goal.judge_list-loop-number-preserved-in-Plain
judge_list-loop-number-preserved-in-Plain t c =
    going_on c.loop-number.invariant (good_plain c.head_at.ensures c.in-Plain.is)
    (plain_goes _ _ _ _ _ (head_plain c.head_at.ensures c.in-Plain.is) c.if-until-next.false)
    (omega arith) (depth_plain c.loop-number.invariant refl)
    (omega (arith, rw c.in-Plain.is at c.head_at.ensures.within))

---- where the next element is a header: what is read of it, and what judging it answers

pub judge_list-judge_element-requires : goal.judge_list-judge_element-requires
judge_list-judge_element-requires t c =
    let e = as_bound c.smaller-last.ensures c.requires in
    let read = rw c.in-Complex.is at c.head_at.ensures in
    omega (arith, read.within, c.loop-number.invariant.gone.words_each)

pub judge_list-returns-in-Err : goal.judge_list-returns-in-Err
judge_list-returns-in-Err t c =
    let read = rw c.in-Complex.is at c.head_at.ensures in
    rw (sym (as_bound c.smaller-last.ensures c.requires))
    (going_broken c.loop-number.invariant (more_complex read refl) (c.in-Err.ensures _ _ read))

pub judge_list-overflow_add-direct-in-Complex : goal.judge_list-overflow_add-direct-in-Complex
judge_list-overflow_add-direct-in-Complex t c =
    let read = rw c.in-Complex.is at c.head_at.ensures in
    let gone = c.loop-number.invariant.gone in
    omega (arith, read.within, gone.words_each, gone.direct)

pub judge_list-overflow_sub-below : goal.judge_list-overflow_sub-below
judge_list-overflow_sub-below t c =
    let read = rw c.in-Complex.is at c.head_at.ensures in
    let x = c.in-Ok.ensures _ _ read in
    omega (arith, x.itself)

pub judge_list-overflow_add-below : goal.judge_list-overflow_add-below
judge_list-overflow_add-below t c =
    let read = rw c.in-Complex.is at c.head_at.ensures in
    let x = c.in-Ok.ensures _ _ read in
    omega (arith, x.words_each, x.good.by, c.loop-number.invariant.gone.words_each)

pub judge_list-overflow_add-result-then-stops : goal.judge_list-overflow_add-result-then-stops
judge_list-overflow_add-result-then-stops t c =
    let read = rw c.in-Complex.is at c.head_at.ensures in
    let x = c.in-Ok.ensures _ _ read in
    omega (arith, x.itself, x.words_each, x.good.by, c.loop-number.invariant.gone.words_each)

pub judge_list-returns-then-stops : goal.judge_list-returns-then-stops
judge_list-returns-then-stops t c =
    let read = rw c.in-Complex.is at c.head_at.ensures in
    let x = c.in-Ok.ensures _ _ read in
    rw (sym (as_bound c.smaller-last.ensures c.requires))
    (going_stopped c.loop-number.invariant x.good
    (header_stops _ _ _ _ _ (head_complex read refl) c.stops.ensures c.if-stops.true)
    (omega (arith, x.itself))
    (c.larger-d-then-stops.ensures ∙ depth_complex c.loop-number.invariant _ x.deep c.larger-deepest.ensures))

pub judge_list-loop-number-smaller : goal.judge_list-loop-number-smaller
judge_list-loop-number-smaller t c =
    let read = rw c.in-Complex.is at c.head_at.ensures in
    let x = c.in-Ok.ensures _ _ read in
    omega (arith, x.good.on, x.good.by)

pub judge_list-loop-number-preserved : goal.judge_list-loop-number-preserved
judge_list-loop-number-preserved t c =
    let read = rw c.in-Complex.is at c.head_at.ensures in
    let x = c.in-Ok.ensures _ _ read in
    going_on c.loop-number.invariant x.good
    (header_stops _ _ _ _ _ (head_complex read refl) c.stops.ensures c.if-stops.false)
    (omega (arith, x.itself))
    (depth_complex c.loop-number.invariant _ x.deep c.larger-deepest.ensures) x.words_each
