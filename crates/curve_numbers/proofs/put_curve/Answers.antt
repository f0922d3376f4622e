-- No room in one of the slices, or each case is its numbers and floats.
use mathlib.Core.Path.{sym, ap, ◌∙◌}
use native.Mathlib.Omega.{arith}
use lib.Seq.{sets}
use Rattle.curve_numbers.specs.Numbers.{curve_numbers, curve_floats, numbers_of, floats_of}
use Rattle.curve_numbers.proofs.Laws.{no_numbers, no_floats, both_put}
use Rattle.curve_numbers.proofs.put_curve.Goals as goal

pub returns-then-numbers-lt7 : goal.returns-then-numbers-lt7
returns-then-numbers-lt7 c = let a = c.args in no_numbers a.numbers.now a.at a.floats.now a.from a.curve (omega arith)

pub returns-then-numbers-at : goal.returns-then-numbers-at
returns-then-numbers-at c = let a = c.args in no_numbers a.numbers.now a.at a.floats.now a.from a.curve (omega arith)

pub returns-then-floats-lt5 : goal.returns-then-floats-lt5
returns-then-floats-lt5 c = let a = c.args in no_floats a.numbers.now a.at a.floats.now a.from a.curve (omega arith)

pub returns-then-floats-from : goal.returns-then-floats-from
returns-then-floats-from c = let a = c.args in no_floats a.numbers.now a.at a.floats.now a.from a.curve (omega arith)

pub put_longs-requires : goal.put_longs-requires
put_longs-requires c = omega (arith, c.if-numbers-at.false, c.if-numbers-lt7.false)

pub put_floats-requires : goal.put_floats-requires
put_floats-requires c = omega (arith, c.if-floats-lt5.false, c.if-floats-from.false)

pub put_longs-requires-in-Arc : goal.put_longs-requires-in-Arc
put_longs-requires-in-Arc c = omega (arith, c.if-numbers-at.false, c.if-numbers-lt7.false)

pub put_floats-requires-in-Arc : goal.put_floats-requires-in-Arc
put_floats-requires-in-Arc c = omega (arith, c.if-floats-lt5.false, c.if-floats-from.false)

pub shape_of-numbers-in-Ellipse : goal.shape_of-numbers-in-Ellipse
shape_of-numbers-in-Ellipse c = c.put_longs.auto.numbers

pub shape_of-floats-in-Ellipse : goal.shape_of-floats-in-Ellipse
shape_of-floats-in-Ellipse c = c.put_floats.auto.floats

pub returns-in-Ellipse : goal.returns-in-Ellipse
returns-in-Ellipse c =
    let a = c.args in
    both_put a.numbers.now a.at a.floats.now a.from a.curve
    (omega (arith, c.if-numbers-lt7.false, c.if-numbers-at.false)) (omega (arith, c.if-floats-lt5.false, c.if-floats-from.false)) _ _
    (c.put_longs.ensures ∙ ap (λ x. sets a.numbers.now a.at (curve_numbers x)) (sym c.in-Ellipse.is) ∙ ap (λ x. sets a.numbers.now a.at (numbers_of x)) (sym c.in-Ok.is))
    (c.put_floats.ensures ∙ ap (λ x. sets a.floats.now a.from (curve_floats x)) (sym c.in-Ellipse.is) ∙ ap (λ x. sets a.floats.now a.from (floats_of x)) (sym c.in-Ok.is))

pub shape_of-numbers-in-Arc : goal.shape_of-numbers-in-Arc
shape_of-numbers-in-Arc c = c.put_longs-in-Arc.auto.numbers

pub shape_of-floats-in-Arc : goal.shape_of-floats-in-Arc
shape_of-floats-in-Arc c = c.put_floats-in-Arc.auto.floats

pub returns-in-Arc : goal.returns-in-Arc
returns-in-Arc c =
    let a = c.args in
    both_put a.numbers.now a.at a.floats.now a.from a.curve
    (omega (arith, c.if-numbers-lt7.false, c.if-numbers-at.false)) (omega (arith, c.if-floats-lt5.false, c.if-floats-from.false)) _ _
    (c.put_longs-in-Arc.ensures ∙ ap (λ x. sets a.numbers.now a.at (curve_numbers x)) (sym c.in-Arc.is) ∙ ap (λ x. sets a.numbers.now a.at (numbers_of x)) (sym c.in-Ok.is))
    (c.put_floats-in-Arc.ensures ∙ ap (λ x. sets a.floats.now a.from (curve_floats x)) (sym c.in-Arc.is) ∙ ap (λ x. sets a.floats.now a.from (floats_of x)) (sym c.in-Ok.is))

pub returns-in_default : goal.returns-in_default
returns-in_default c =
    let a = c.args in
    both_put a.numbers.now a.at a.floats.now a.from a.curve
    (omega (arith, c.if-numbers-lt7.false, c.if-numbers-at.false)) (omega (arith, c.if-floats-lt5.false, c.if-floats-from.false)) _ _
    (ap (λ x. sets a.numbers.now a.at (numbers_of x)) (sym c.in_default.is))
    (ap (λ x. sets a.floats.now a.from (floats_of x)) (sym c.in_default.is))
