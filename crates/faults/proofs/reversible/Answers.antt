-- The kinds are tested in the definition's order, and each reversal has its own call.
use mathlib.Core.Path.{ap, ◌∙◌}
use Rattle.std.specs.Prelude.{is_ok}
use borrow.Author.Tests.{eq-eqb, ne_eqb}
use Rattle.faults.specs.Reversing.{reverses_at}
use Rattle.faults.proofs.Inserting.{given_fine}
use Rattle.faults.proofs.reversible.Goals as goal

pub returns-then-kind-eq1 : goal.returns-then-kind-eq1
unfolding reverses_at
returns-then-kind-eq1 c = rw (eq-eqb _ _ c.if-kind-eq1.true) c.flags_fit.ensures

pub returns-then-kind-eq2 : goal.returns-then-kind-eq2
unfolding reverses_at
returns-then-kind-eq2 c =
    rw (
      ne_eqb _ _ c.if-kind-eq1.false,
      eq-eqb _ _ c.if-kind-eq2.true,
      c.rename_fault.ensures,
      c.name_ok-named.ensures,
      c.word.ensures.is,
      c.word-then-kind-eq2.ensures.is,
    )

pub returns-then-kind-eq3 : goal.returns-then-kind-eq3
unfolding reverses_at
returns-then-kind-eq3 c = rw (ne_eqb _ _ c.if-kind-eq1.false, ne_eqb _ _ c.if-kind-eq2.false, eq-eqb _ _ c.if-kind-eq3.true) c.stands_under.ensures

pub returns : goal.returns
unfolding reverses_at
returns c =
    rw (ne_eqb _ _ c.if-kind-eq1.false, ne_eqb _ _ c.if-kind-eq2.false, ne_eqb _ _ c.if-kind-eq3.false)
    (c.is_ok.ensures.value ∙ ap is_ok c.insert_fault.ensures ∙ given_fine _)
