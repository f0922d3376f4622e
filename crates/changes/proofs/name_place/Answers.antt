-- By the type: a library cell's name stands at word 16, a cell's at word 19.
use mathlib.Core.Path.{sym, ◌∙◌}
use Rattle.words.specs.Words.{words}
use Rattle.changes.proofs.NameSteps.{name_library, name_cell}
use Rattle.changes.proofs.name_place.Goals as goal

pub returns-then-type_at-eq1 : goal.returns-then-type_at-eq1
returns-then-type_at-eq1 c = name_library (words c.args.used.now) _ (sym c.type_at.ensures ∙ c.if-type_at-eq1.true)

pub returns : goal.returns
returns c = name_cell (words c.args.used.now) _ (λ e. c.if-type_at-eq1.false (c.type_at.ensures ∙ e))
