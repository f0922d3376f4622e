-- Each case is its numbers.
use mathlib.Core.Path.{sym, ap}
use Rattle.view_numbers.specs.Numbers.{display_numbers}
use Rattle.view_numbers.proofs.display_numbers.Goals as goal

pub returns-in-Some : goal.returns-in-Some
returns-in-Some c = ap display_numbers (sym (c.in-Some.is))
