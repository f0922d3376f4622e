-- The elements at the top up to the first that ends after the place, then the others (Nearest). A refused file is answered
-- as it is judged.
use Prim.Native.Nat.{◌/◌}
use mathlib.Core.Path.{◌≡◌, sym, ap, ◌∙◌}
use mathlib.Core.Bool.{true, false}
use native.Mathlib.Omega.{arith}
use lib.ListN.{length}
use Rattle.std.specs.Prelude.{Ok}
use Rattle.std.proofs.lemmas.Result.{err_from_is_err_and}
use Rattle.words.specs.Words.{words}
use Rattle.files.specs.Reach.{reached_of}
use Rattle.files.specs.ReachedAnswers.{an_element}
use Rattle.limits.specs.Limits.{call_ok}
use Rattle.files.proofs.Laws.{judge_call}
use Rattle.places.proofs.Places.{placed_refused}
use Rattle.places.proofs.Nearest.{first_fault, first_end, before_end, end_inside, rest_fault, rest_end, rest_stops}
use Rattle.places.proofs.placed_at.Goals as goal
use Rattle.places.proofs.placed_at.Goals.{After-reach, In-Element}

pub returns-then-not-call_ok : goal.returns-then-not-call_ok
returns-then-not-call_ok c = sym (placed_refused _ _ _ 1 0 (sym (judge_call _ _ (sym (c.call_ok.ensures) ∙ c.if-not-call_ok.true))))

-- the call is one that may be made
call : (c : After-reach) → call_ok c.args.dim c.args.file.now ≡ true
call c = sym c.call_ok.ensures ∙ c.if-not-call_ok.false

-- the element at the top where the descent begins
first : (c : In-Element) → an_element c.in-Element.top c.in-Element.end c.in-Element.before ≡ reached_of c.args.dim (words c.args.file.now) 0 (length c.args.file.now / 2) c.args.place false
first c = sym (ap Ok c.in-Element.is) ∙ sym c.in_ok-marker.was ∙ c.reach.ensures

pub descend-found-requires : goal.descend-found-requires
descend-found-requires c =
    let a = (goal.at.descend-found-requires c).In-Element in
    omega (arith, before_end _ _ _ (call (goal.at.descend-found-requires c).After-reach) (first a), end_inside _ _ _ (call (goal.at.descend-found-requires c).After-reach) (first a))

pub returns-in_err-marker : goal.returns-in_err-marker
returns-in_err-marker c =
    let p = err_from_is_err_and c.from_residual.result c.from_residual.ensures.1 in
    rw (p.1, p.2) (first_fault _ _ _ (call (goal.at.returns-in_err-marker c).After-reach) (sym c.in_err-marker.was ∙ c.reach.ensures))

pub returns-in-End : goal.returns-in-End
returns-in-End c = first_end _ _ _ (call (goal.at.returns-in-End c).After-reach) (sym (ap Ok c.in-End.is) ∙ sym c.in_ok-marker.was ∙ c.reach.ensures)

pub returns-in_err-marker-in-Element : goal.returns-in_err-marker-in-Element
returns-in_err-marker-in-Element c =
    let p = err_from_is_err_and c.from_residual-in_err-marker-in-Element.result c.from_residual-in_err-marker-in-Element.ensures.1 in
    rw (p.1, p.2)
    (rest_fault _ _ _ (call (goal.at.returns-in_err-marker-in-Element c).After-reach) (first (goal.at.returns-in_err-marker-in-Element c).In-Element)
    (sym c.in_err-marker-in-Element.was ∙ c.reach-in-Element.ensures))

pub returns-in-End-2 : goal.returns-in-End-2
returns-in-End-2 c =
    rest_end _ _ _ (call (goal.at.returns-in-End-2 c).After-reach) (first (goal.at.returns-in-End-2 c).In-Element) _
    (sym (ap Ok c.in-End-2.is) ∙ sym c.in_ok-marker-in-Element.was ∙ c.reach-in-Element.ensures) c.descend-found.ensures

pub returns-in-Element-2 : goal.returns-in-Element-2
returns-in-Element-2 c =
    absurd
    (rest_stops _ _ _ (call (goal.at.returns-in-Element-2 c).After-reach) (first (goal.at.returns-in-Element-2 c).In-Element)
    (sym (ap Ok c.in-Element-2.is) ∙ sym c.in_ok-marker-in-Element.was ∙ c.reach-in-Element.ensures))
