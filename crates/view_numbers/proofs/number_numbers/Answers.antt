-- Each case is its numbers.
use mathlib.Core.Path.{sym, ap}
use Rattle.view_numbers.specs.Numbers.{number_numbers}
use Rattle.view_numbers.proofs.number_numbers.Goals as goal

pub returns-in-Some : goal.returns-in-Some
returns-in-Some c = ap number_numbers (sym (c.in-Some.is))
