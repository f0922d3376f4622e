-- Each case is its numbers.
use mathlib.Core.Path.{sym, ap}
use Rattle.view_numbers.specs.Numbers.{name_numbers}
use Rattle.view_numbers.proofs.name_numbers.Goals as goal

pub returns-in-Some : goal.returns-in-Some
returns-in-Some c = ap name_numbers (sym (c.in-Some.is))
