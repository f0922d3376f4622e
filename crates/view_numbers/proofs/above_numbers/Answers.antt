-- Each case is its numbers.
use mathlib.Core.Path.{sym, ap}
use Rattle.view_numbers.specs.Numbers.{above_numbers}
use Rattle.view_numbers.proofs.above_numbers.Goals as goal

pub returns-in-Under : goal.returns-in-Under
returns-in-Under c = ap above_numbers (sym (c.in-Under.is))
