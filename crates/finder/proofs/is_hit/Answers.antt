-- The name is asked first: without it nothing is wanted.
use mathlib.Core.Path.{sym, ◌∙◌}
use Rattle.finder.proofs.Named.{hit_none, hit_wanted}
use Rattle.finder.proofs.is_hit.Goals as goal

pub returns-then-has_name : goal.returns-then-has_name
returns-then-has_name c = hit_wanted _ _ _ _ _ c.has_name.ensures c.if-has_name.true c.is_wanted.ensures

pub returns : goal.returns
returns c = sym (hit_none _ _ _ _ _ (sym c.has_name.ensures ∙ c.if-has_name.false))
