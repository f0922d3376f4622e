-- By kind, as the definition goes.
use mathlib.Core.Path.{refl, sym, ◌∙◌}
use borrow.Author.Tests.{eq-eqb, ne_eqb}
use Rattle.journals.proofs.Records.{last_kind}
use Rattle.journals.proofs.well_formed.Goals as goal

pub returns-then-kind-eq1 : goal.returns-then-kind-eq1
returns-then-kind-eq1 c = c.at_top_with.ensures ∙ rw (eq-eqb c.args.kind 1 c.if-kind-eq1.true) refl

pub returns-then-kind-eq2 : goal.returns-then-kind-eq2
returns-then-kind-eq2 c = c.at_top_with-then-kind-eq2.ensures ∙ rw (ne_eqb c.args.kind 1 c.if-kind-eq1.false, eq-eqb c.args.kind 2 c.if-kind-eq2.true) refl

pub returns-then-kind-eq3 : goal.returns-then-kind-eq3
returns-then-kind-eq3 c = rw (ne_eqb c.args.kind 1 c.if-kind-eq1.false, ne_eqb c.args.kind 2 c.if-kind-eq2.false, eq-eqb c.args.kind 3 c.if-kind-eq3.true) refl

pub returns : goal.returns
returns c = rw (ne_eqb c.args.kind 1 c.if-kind-eq1.false, ne_eqb c.args.kind 2 c.if-kind-eq2.false, ne_eqb c.args.kind 3 c.if-kind-eq3.false) (sym (last_kind _ _ _))
