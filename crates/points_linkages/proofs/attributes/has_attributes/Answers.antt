-- The type, then bit 11 of the properties, as in `has_attributes`.
use mathlib.Core.Path.{sym, ap, ◌∙◌}
use Rattle.kinds.specs.Kinds.{is_linked}
use Rattle.points_linkages.proofs.attributes.has_attributes.Goals as goal

pub returns-then-is_linked : goal.returns-then-is_linked
returns-then-is_linked c = rw (c.word.ensures.is, ap is_linked (sym c.type_at.ensures) ∙ sym c.is_linked.ensures ∙ c.if-is_linked.true)

pub returns : goal.returns
returns c = rw (ap is_linked (sym c.type_at.ensures) ∙ sym c.is_linked.ensures ∙ c.if-is_linked.false)
