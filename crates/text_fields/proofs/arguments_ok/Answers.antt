-- The tests are the definition's, in its order: the first that fails makes the conjunction false (`and_no`), one that passes
-- leaves the rest (`and_on`).
use borrow.Author.Tests.{eq-eqb, ne_eqb}
use mathlib.Core.Path.{refl, sym, ◌∙◌}
use Rattle.fields.proofs.Bounds.{and_no, and_on}
use Rattle.text_fields.specs.Faults.{text_arguments_ok}
use native.Mathlib.Omega.{arith}
use Rattle.text_fields.proofs.Bounds.{lists}
use Rattle.text_fields.proofs.arguments_ok.Goals as goal

pub returns-then-not-dim_ok : goal.returns-then-not-dim_ok
unfolding text_arguments_ok
returns-then-not-dim_ok c = and_no _ (sym c.dim_ok.ensures ∙ c.if-not-dim_ok.true)

pub returns-then-fields-ne17 : goal.returns-then-fields-ne17
unfolding text_arguments_ok
returns-then-fields-ne17 c = and_on (sym c.dim_ok.ensures ∙ c.if-not-dim_ok.false) (and_no _ (ne_eqb _ _ c.if-fields-ne17.true))

pub returns-then-not-fields_ok : goal.returns-then-not-fields_ok
unfolding text_arguments_ok
returns-then-not-fields_ok c =
    and_on (sym c.dim_ok.ensures ∙ c.if-not-dim_ok.false)
    (and_on (eq-eqb _ _ c.if-fields-ne17.false)
    (and_no _ (sym c.fields_ok.ensures ∙ c.if-not-fields_ok.true)))

pub returns-then-not-numbers_ok : goal.returns-then-not-numbers_ok
unfolding text_arguments_ok
returns-then-not-numbers_ok c =
    and_on (sym c.dim_ok.ensures ∙ c.if-not-dim_ok.false)
    (and_on (eq-eqb _ _ c.if-fields-ne17.false)
    (and_on (sym c.fields_ok.ensures ∙ c.if-not-fields_ok.false)
    (and_no _ (sym c.numbers_ok.ensures ∙ c.if-not-numbers_ok.true))))

pub returns-then-not-flat_ok : goal.returns-then-not-flat_ok
unfolding text_arguments_ok
returns-then-not-flat_ok c =
    and_on (sym c.dim_ok.ensures ∙ c.if-not-dim_ok.false)
    (and_on (eq-eqb _ _ c.if-fields-ne17.false)
    (and_on (sym c.fields_ok.ensures ∙ c.if-not-fields_ok.false)
    (and_on (sym c.numbers_ok.ensures ∙ c.if-not-numbers_ok.false)
    (and_no _ (sym c.flat_ok.ensures ∙ c.if-not-flat_ok.true)))))

pub returns-then-not-lists_ok : goal.returns-then-not-lists_ok
unfolding text_arguments_ok
returns-then-not-lists_ok c =
    and_on (sym c.dim_ok.ensures ∙ c.if-not-dim_ok.false)
    (and_on (eq-eqb _ _ c.if-fields-ne17.false)
    (and_on (sym c.fields_ok.ensures ∙ c.if-not-fields_ok.false)
    (and_on (sym c.numbers_ok.ensures ∙ c.if-not-numbers_ok.false)
    (and_on (sym c.flat_ok.ensures ∙ c.if-not-flat_ok.false)
    (and_no _ (sym c.lists_ok.ensures ∙ c.if-not-lists_ok.true))))))

pub overflow_add-characters : goal.overflow_add-characters
overflow_add-characters c = let l = lists _ _ (sym c.lists_ok.ensures ∙ c.if-not-lists_ok.false) in omega arith

pub returns-then-not-odd_ok : goal.returns-then-not-odd_ok
unfolding text_arguments_ok
returns-then-not-odd_ok c =
    and_on (sym c.dim_ok.ensures ∙ c.if-not-dim_ok.false)
    (and_on (eq-eqb _ _ c.if-fields-ne17.false)
    (and_on (sym c.fields_ok.ensures ∙ c.if-not-fields_ok.false)
    (and_on (sym c.numbers_ok.ensures ∙ c.if-not-numbers_ok.false)
    (and_on (sym c.flat_ok.ensures ∙ c.if-not-flat_ok.false)
    (and_on (sym c.lists_ok.ensures ∙ c.if-not-lists_ok.false)
    (and_no _ (sym c.odd_ok.ensures ∙ c.if-not-odd_ok.true)))))))

pub returns : goal.returns
unfolding text_arguments_ok
returns c =
    and_on (sym c.dim_ok.ensures ∙ c.if-not-dim_ok.false)
    (and_on (eq-eqb _ _ c.if-fields-ne17.false)
    (and_on (sym c.fields_ok.ensures ∙ c.if-not-fields_ok.false)
    (and_on (sym c.numbers_ok.ensures ∙ c.if-not-numbers_ok.false)
    (and_on (sym c.flat_ok.ensures ∙ c.if-not-flat_ok.false)
    (and_on (sym c.lists_ok.ensures ∙ c.if-not-lists_ok.false)
    (and_on (sym c.odd_ok.ensures ∙ c.if-not-odd_ok.false) (refl)))))))
