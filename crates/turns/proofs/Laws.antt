-- A turn has four numbers.
use mathlib.Core.Path.{◌≡◌, refl}
use lib.ListN.{length}
use Rattle.turns.specs.declared.Turn.{Turn}
use Rattle.turns.specs.declared.Turn.TheVariants.{Flat, Solid}
use Rattle.turns.specs.Turns.{turn_numbers}

pub turn_four : (x : Turn) → length (turn_numbers x) ≡ 4
turn_four (Flat rotation) = refl
turn_four (Solid a b c d) = refl
