-- The checks are the definition's, in its order: 13, 14.
use mathlib.Core.Path.{◌≡◌, sym, ap, ◌∙◌}
use mathlib.Core.Bool.{true, not}
use Rattle.std.specs.Prelude.{is_ok}
use Rattle.words.specs.Words.{words, word_at}
use Rattle.edits.specs.Allowed.{flag_differs}
use Rattle.faults.specs.Faults.{mark_number}
use Rattle.faults.proofs.mark_fault.Goals as goal
use Rattle.faults.proofs.mark_fault.Goals.{After-flag_differs}

pub returns-then-is_err : goal.returns-then-is_err
unfolding mark_number
returns-then-is_err c = rw (c.is_err.ensures.negation ∙ ap not c.if-is_err.true)

-- an element is there
there : (c : After-flag_differs) → is_ok c.args.found ≡ true
there c = c.is_err.ensures.negation ∙ ap not c.if-is_err.false

-- its flag differs, or not
differs : (c : After-flag_differs) → flag_differs c.args.deleted (word_at (words c.args.used.now) c.args.place) ≡ c.flag_differs.result
differs c = ap (flag_differs c.args.deleted) (sym c.word.ensures.is) ∙ sym c.flag_differs.ensures

pub returns-then-not-flag_differs : goal.returns-then-not-flag_differs
unfolding mark_number
returns-then-not-flag_differs c =
    let at = (goal.at.returns-then-not-flag_differs c).After-flag_differs in
    rw (there at, differs at ∙ c.if-not-flag_differs.true)

pub returns : goal.returns
unfolding mark_number
returns c =
    let at = (goal.at.returns c).After-flag_differs in
    rw (there at, differs at ∙ c.if-not-flag_differs.false)
