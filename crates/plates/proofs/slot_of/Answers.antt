-- A deleted element has the number 6, any other that of its kind.
use mathlib.Core.Path.{refl, ap, ◌∙◌}
use borrow.Author.Tests.{eq-eqb, ne_eqb}
use Rattle.plates.specs.Hops.{kind_of, slot_of}
use Rattle.plates.proofs.slot_of.Goals as goal

pub returns-then-w-eq1 : goal.returns-then-w-eq1
unfolding slot_of
returns-then-w-eq1 c = rw (eq-eqb _ 1 (c.if-w-eq1.true)) refl

pub returns : goal.returns
unfolding slot_of
returns c = rw (ne_eqb _ 1 (c.if-w-eq1.false)) (c.kind_of.ensures ∙ ap kind_of (c.type_of.ensures))
