-- The tests are the definition's, in its order: the first that fails makes the conjunction false (`and_no`), one that passes
-- leaves the rest (`and_on`).
use mathlib.Core.Path.{refl, sym, ◌∙◌}
use Rattle.fields.specs.Faults.{arguments_ok}
use Rattle.fields.proofs.Bounds.{and_no, and_on}
use Rattle.fields.proofs.arguments_ok.Goals as goal

pub returns-then-not-dim_ok : goal.returns-then-not-dim_ok
unfolding arguments_ok
returns-then-not-dim_ok c =
    and_no _ (sym c.dim_ok.ensures ∙ c.if-not-dim_ok.true)

pub returns-then-not-kind_ok : goal.returns-then-not-kind_ok
unfolding arguments_ok
returns-then-not-kind_ok c =
    and_on (sym c.dim_ok.ensures ∙ c.if-not-dim_ok.false)
    (and_no _ (sym c.kind_ok.ensures ∙ c.if-not-kind_ok.true))

pub returns-then-not-fields_ok : goal.returns-then-not-fields_ok
unfolding arguments_ok
returns-then-not-fields_ok c =
    and_on (sym c.dim_ok.ensures ∙ c.if-not-dim_ok.false)
    (and_on (sym c.kind_ok.ensures ∙ c.if-not-kind_ok.false)
    (and_no _ (sym c.fields_ok.ensures ∙ c.if-not-fields_ok.true)))

pub points_fit-requires : goal.points_fit-requires
points_fit-requires c = sym c.dim_ok.ensures ∙ c.if-not-dim_ok.false

pub returns-then-not-points_fit : goal.returns-then-not-points_fit
unfolding arguments_ok
returns-then-not-points_fit c =
    and_on (sym c.dim_ok.ensures ∙ c.if-not-dim_ok.false)
    (and_on (sym c.kind_ok.ensures ∙ c.if-not-kind_ok.false)
    (and_on (sym c.fields_ok.ensures ∙ c.if-not-fields_ok.false)
    (and_no _ (sym c.points_fit.ensures ∙ c.if-not-points_fit.true))))

pub returns : goal.returns
unfolding arguments_ok
returns c =
    and_on (sym c.dim_ok.ensures ∙ c.if-not-dim_ok.false)
    (and_on (sym c.kind_ok.ensures ∙ c.if-not-kind_ok.false)
    (and_on (sym c.fields_ok.ensures ∙ c.if-not-fields_ok.false)
    (and_on (sym c.points_fit.ensures ∙ c.if-not-points_fit.false)
    (refl))))
