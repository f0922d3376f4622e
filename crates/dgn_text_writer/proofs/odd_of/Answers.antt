-- -1 stands for no byte where there is none (`none`), any other number for itself (`other`).
use mathlib.Core.Path.{ap, ◌∙◌}
use Rattle.write_answers.specs.Writing.{natural}
use Rattle.write_answers.proofs.Numbers.{back}
use Rattle.dgn_text_writer.proofs.Numbers.{none, other}
use Rattle.dgn_text_writer.proofs.odd_of.Goals as goal

pub returns-then-v-eqminus1 : goal.returns-then-v-eqminus1
returns-then-v-eqminus1 c = c.pick.ensures ∙ none _ c.ranges.v _ c.if-v-eqminus1.true

pub returns : goal.returns
returns c = c.natural.ensures ∙ ap natural (back _ c.ranges.v) ∙ other _ c.ranges.v _ c.if-v-eqminus1.false
