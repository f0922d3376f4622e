-- The tests, one after the other (`type_nine`, `c_clear`).
use mathlib.Core.Path.{sym, ◌∙◌}
use Rattle.dgn_all_views.proofs.Tops.{type_nine, c_clear}
use Rattle.dgn_all_views.proofs.no_component.Goals as goal

pub returns-then-type_of-eq9 : goal.returns-then-type_of-eq9
returns-then-type_of-eq9 c = rw (← c.word-w.ensures.is) (type_nine c.word-w.result (sym c.type_of.ensures ∙ c.if-type_of-eq9.true))

pub returns : goal.returns
returns c = rw (← c.word-w.ensures.is) (c_clear c.word-w.result (λ q. c.if-type_of-eq9.false (c.type_of.ensures ∙ q)))
