-- Each case is its numbers.
use mathlib.Core.Path.{sym, ap, ◌∙◌}
use lib.Seq.{sets}
use Rattle.curve_numbers.specs.Numbers.{long_numbers}
use Rattle.curve_numbers.proofs.put_longs.Goals as goal

pub shape_of-numbers-in-Flat : goal.shape_of-numbers-in-Flat
shape_of-numbers-in-Flat c = c.put_seven.auto.numbers

pub returns-in-Flat : goal.returns-in-Flat
returns-in-Flat c =
    let a = c.args in
    c.put_seven.ensures ∙ ap (λ t. sets a.numbers.now a.at (long_numbers a.kind a.start a.sweep t)) (sym c.in-Flat.is)

pub shape_of-numbers-in-Solid : goal.shape_of-numbers-in-Solid
shape_of-numbers-in-Solid c = c.put_seven-in-Solid.auto.numbers

pub returns-in-Solid : goal.returns-in-Solid
returns-in-Solid c =
    let a = c.args in
    c.put_seven-in-Solid.ensures ∙ ap (λ t. sets a.numbers.now a.at (long_numbers a.kind a.start a.sweep t)) (sym c.in-Solid.is)
