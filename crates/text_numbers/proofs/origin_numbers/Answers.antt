-- Each case is its numbers, which keep their values.
use mathlib.Core.Path.{sym, ap}
use mir.Syntax.{w64}
use mir.ValLaws.{to_z-of_z}
use borrow.Author.Rules.{rules}
use Rattle.text_numbers.specs.Numbers.{origin_numbers}
use Rattle.text_numbers.proofs.origin_numbers.Goals as goal

pub returns-in-Flat : goal.returns-in-Flat
returns-in-Flat c =
    rw (to_z-of_z w64 c.in-Flat.x (search rules), to_z-of_z w64 c.in-Flat.y (search rules)) (ap origin_numbers (sym c.in-Flat.is))

pub returns-in-Solid : goal.returns-in-Solid
returns-in-Solid c =
    rw (
      to_z-of_z w64 c.in-Solid.x (search rules),
      to_z-of_z w64 c.in-Solid.y (search rules),
      to_z-of_z w64 c.in-Solid.z (search rules),
    ) (ap origin_numbers (sym c.in-Solid.is))
