-- The loop's invariant: the elements at the top before `here` are judged, and the answer is that of all elements up to
-- there (Looks). A refused file is answered as it is judged.
use mathlib.Core.Path.{◌≡◌, sym, ap, ◌∙◌}
use mathlib.Core.Bool.{true}
use Rattle.std.specs.Prelude.{Ok, Err}
use Rattle.std.proofs.lemmas.Result.{err_from_is_err_and}
use Rattle.refusals.specs.Refusals.{refusal_of}
use Rattle.limits.specs.Limits.{call_ok}
use Rattle.files.proofs.Laws.{judge_call}
use Rattle.finder.proofs.Looks.{searched_none, search_refused, arrived_fault, end_may, end_answer, header_may, header_less, header_hit, header_look, header_more}
use Rattle.finder.proofs.search.Goals as goal
use Rattle.finder.proofs.search.Goals.{At-loop-before}

pub returns-then-not-call_ok : goal.returns-then-not-call_ok
returns-then-not-call_ok c = ap Err c.from.ensures ∙ search_refused _ _ _ _ _ (refusal_of 1 0) (sym (judge_call _ _ (sym (c.call_ok.ensures) ∙ c.if-not-call_ok.true)))

pub loop-before-init : goal.loop-before-init
loop-before-init c = searched_none (ap Err c.none_named.ensures)

-- the call is one that may be made
call : (c : At-loop-before) → call_ok c.args.dim c.args.file.now ≡ true
call c =
    sym c.call_ok.ensures ∙ c.if-not-call_ok.false

pub returns-in_err-before : goal.returns-in_err-before
returns-in_err-before c =
    let p = err_from_is_err_and c.from_residual.result c.from_residual.ensures.1 in
    p.1 ∙ ap Err p.2 ∙ arrived_fault c.loop-before.invariant (call (goal.at.returns-in_err-before c).At-loop-before) (sym c.in_err-before.was ∙ c.reach.ensures)

pub past-requires : goal.past-requires
past-requires c =
    end_may c.loop-before.invariant (call (goal.at.past-requires c).At-loop-before)
    (sym (ap Ok c.in-End.is) ∙ sym c.in_ok-before.was ∙ c.reach.ensures)

pub returns-in-End : goal.returns-in-End
returns-in-End c =
    end_answer c.loop-before.invariant (call (goal.at.returns-in-End c).At-loop-before)
    (sym (ap Ok c.in-End.is) ∙ sym c.in_ok-before.was ∙ c.reach.ensures) c.past.ensures

pub past-requires-in-Element : goal.past-requires-in-Element
past-requires-in-Element c =
    header_may c.loop-before.invariant (call (goal.at.past-requires-in-Element c).At-loop-before)
    (sym (ap Ok c.in-Element.is) ∙ sym c.in_ok-before.was ∙ c.reach.ensures)

pub look-answer-requires : goal.look-answer-requires
look-answer-requires c =
    header_look c.loop-before.invariant (call (goal.at.look-answer-requires c).At-loop-before)
    (sym (ap Ok c.in-Element.is) ∙ sym c.in_ok-before.was ∙ c.reach.ensures) c.past-in-Element.ensures c.in-Err.is

pub loop-before-smaller-in-Err : goal.loop-before-smaller-in-Err
loop-before-smaller-in-Err c =
    header_less c.loop-before.invariant (call (goal.at.loop-before-smaller-in-Err c).At-loop-before)
    (sym (ap Ok c.in-Element.is) ∙ sym c.in_ok-before.was ∙ c.reach.ensures)

pub loop-before-preserved-in-Err : goal.loop-before-preserved-in-Err
loop-before-preserved-in-Err c =
    header_more c.loop-before.invariant (call (goal.at.loop-before-preserved-in-Err c).At-loop-before)
    (sym (ap Ok c.in-Element.is) ∙ sym c.in_ok-before.was ∙ c.reach.ensures) c.past-in-Element.ensures c.in-Err.is _ c.look-answer.ensures

pub loop-before-smaller : goal.loop-before-smaller
loop-before-smaller c =
    header_less c.loop-before.invariant (call (goal.at.loop-before-smaller c).At-loop-before)
    (sym (ap Ok c.in-Element.is) ∙ sym c.in_ok-before.was ∙ c.reach.ensures)

pub loop-before-preserved : goal.loop-before-preserved
loop-before-preserved c =
    header_hit c.loop-before.invariant (call (goal.at.loop-before-preserved c).At-loop-before)
    (sym (ap Ok c.in-Element.is) ∙ sym c.in_ok-before.was ∙ c.reach.ensures) c.past-in-Element.ensures c.in_default.is
