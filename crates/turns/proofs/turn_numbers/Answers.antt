-- Each case is its numbers, which fit.
use mathlib.Core.Path.{sym, ap}
use native.Mathlib.Omega.{arith}
use mir.Syntax.{w64}
use mir.ValLaws.{to_z_pos}
use Rattle.turns.specs.Turns.{turn_numbers}
use Rattle.turns.proofs.turn_numbers.Goals as goal

pub returns-in-Flat : goal.returns-in-Flat
returns-in-Flat c = rw (to_z_pos w64 c.in-Flat.rotation (omega arith)) (ap turn_numbers (sym c.in-Flat.is))

pub returns-in-Solid : goal.returns-in-Solid
returns-in-Solid c = rw (
  to_z_pos w64 c.in-Solid.first (omega arith),
  to_z_pos w64 c.in-Solid.second (omega arith),
  to_z_pos w64 c.in-Solid.third (omega arith),
  to_z_pos w64 c.in-Solid.fourth (omega arith),
) (ap turn_numbers (sym c.in-Solid.is))
