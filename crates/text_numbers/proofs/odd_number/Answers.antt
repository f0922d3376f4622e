-- Each case is its number.
use mathlib.Core.Path.{sym, ap, ◌∙◌}
use native.Mathlib.Omega.{arith}
use mir.Syntax.{w64}
use mir.ValLaws.{to_z_pos}
use Rattle.text_numbers.specs.Numbers.{odd_number}
use Rattle.text_numbers.proofs.odd_number.Goals as goal

pub returns-in-None : goal.returns-in-None
returns-in-None c = ap odd_number (sym c.in-None.is)

pub returns-in-Some : goal.returns-in-Some
returns-in-Some c = to_z_pos w64 _ (omega arith) ∙ ap odd_number (sym c.in-Some.is)
