-- Each test that holds or fails decides one case of the kind's number.
use mathlib.Core.Path.{refl, sym, ◌∙◌}
use borrow.Author.Tests.{eq-eqb, ne_eqb}
use Rattle.plates.proofs.kind_of.Goals as goal

pub returns-then-t-eq3 : goal.returns-then-t-eq3
returns-then-t-eq3 c = rw (eq-eqb _ 3 (c.if-t-eq3.true)) refl

pub returns-then-is_pointed : goal.returns-then-is_pointed
returns-then-is_pointed c = rw (ne_eqb _ 3 (c.if-t-eq3.false), sym (c.is_pointed.ensures) ∙ c.if-is_pointed.true) refl

pub returns-then-t-eq17 : goal.returns-then-t-eq17
returns-then-t-eq17 c = rw (ne_eqb _ 3 (c.if-t-eq3.false), sym (c.is_pointed.ensures) ∙ c.if-is_pointed.false, eq-eqb _ 17 (c.if-t-eq17.true)) refl

pub returns-then-is_curve : goal.returns-then-is_curve
returns-then-is_curve c =
    rw (ne_eqb _ 3 c.if-t-eq3.false, sym c.is_pointed.ensures ∙ c.if-is_pointed.false, ne_eqb _ 17 c.if-t-eq17.false, sym c.is_curve.ensures ∙ c.if-is_curve.true) refl

pub returns : goal.returns
returns c =
    rw (
      ne_eqb _ 3 c.if-t-eq3.false,
      sym c.is_pointed.ensures ∙ c.if-is_pointed.false,
      ne_eqb _ 17 c.if-t-eq17.false,
      sym c.is_curve.ensures ∙ c.if-is_curve.false,
      ← c.is_header.ensures,
    ) c.pick.ensures
