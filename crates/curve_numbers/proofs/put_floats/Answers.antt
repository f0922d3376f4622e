-- Each case is its floats.
use mathlib.Core.Path.{sym, ap, ◌∙◌}
use mathlib.Core.List.{◌∷◌}
use lib.Ieee.{of_bits}
use lib.Seq.{sets}
use Rattle.curve_numbers.specs.Numbers.{origin_floats}
use Rattle.curve_numbers.proofs.put_floats.Goals as goal

pub shape_of-floats-in-Flat : goal.shape_of-floats-in-Flat
shape_of-floats-in-Flat c = c.put_five.auto.floats

pub returns-in-Flat : goal.returns-in-Flat
unfolding of_bits
returns-in-Flat c =
    let a = c.args in
    c.put_five.ensures ∙ ap (λ o. sets a.floats.now a.at (a.primary ∷ a.secondary ∷ origin_floats o)) (sym c.in-Flat.is)

pub shape_of-floats-in-Solid : goal.shape_of-floats-in-Solid
shape_of-floats-in-Solid c = c.put_five-in-Solid.auto.floats

pub returns-in-Solid : goal.returns-in-Solid
returns-in-Solid c =
    let a = c.args in
    c.put_five-in-Solid.ensures ∙ ap (λ o. sets a.floats.now a.at (a.primary ∷ a.secondary ∷ origin_floats o)) (sym c.in-Solid.is)
