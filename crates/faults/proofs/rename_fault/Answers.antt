-- The checks are the definition's, in its order: 13, 18, 12.
use mathlib.Core.Path.{sym, ap, ◌∙◌}
use mathlib.Core.Bool.{not}
use Rattle.faults.specs.Faults.{rename_number}
use Rattle.faults.proofs.rename_fault.Goals as goal

pub returns-then-is_err : goal.returns-then-is_err
unfolding rename_number
returns-then-is_err c = rw (c.is_err.ensures.negation ∙ ap not c.if-is_err.true)

pub returns-then-not-is_cell : goal.returns-then-not-is_cell
unfolding rename_number
returns-then-not-is_cell c = rw (c.is_err.ensures.negation ∙ ap not c.if-is_err.false, sym c.is_cell.ensures ∙ c.if-not-is_cell.true)

pub returns-then-not-named : goal.returns-then-not-named
unfolding rename_number
returns-then-not-named c =
    rw (
      c.is_err.ensures.negation ∙ ap not c.if-is_err.false,
      sym c.is_cell.ensures ∙ c.if-not-is_cell.false,
      c.if-not-named.true,
    )

pub returns : goal.returns
unfolding rename_number
returns c =
    rw (
      c.is_err.ensures.negation ∙ ap not c.if-is_err.false,
      sym c.is_cell.ensures ∙ c.if-not-is_cell.false,
      c.if-not-named.false,
    )
