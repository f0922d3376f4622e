-- The number that is read is the slice's (`back`); where there is none it is 0 (`none_there`).
use mathlib.Core.Path.{ap, ◌∙◌}
use Rattle.write_answers.specs.Writing.{number_at, natural}
use Rattle.write_answers.proofs.Numbers.{back, none_there}
use Rattle.write_answers.proofs.natural_at.Goals as goal

pub returns-then-i-numbers : goal.returns-then-i-numbers
returns-then-i-numbers c =
    c.natural.ensures ∙ ap natural (back (number_at c.args.numbers.now c.args.i) (record { sfits = c.natural-arg-1.given }))

pub returns : goal.returns
returns c = none_there c.args.numbers.now c.args.i c.if-i-numbers.false
