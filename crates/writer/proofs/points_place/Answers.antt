-- The test for a type with N decides which of the two places the definition gives.
use mathlib.Core.Path.{refl, sym, ◌∙◌}
use Rattle.writer.proofs.points_place.Goals as goal

pub returns-then-is_pointed : goal.returns-then-is_pointed
returns-then-is_pointed c = rw (sym c.is_pointed.ensures ∙ c.if-is_pointed.true) refl

pub returns-else-is_pointed : goal.returns-else-is_pointed
returns-else-is_pointed c = rw (sym c.is_pointed.ensures ∙ c.if-is_pointed.false) refl
