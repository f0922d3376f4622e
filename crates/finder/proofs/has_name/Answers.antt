-- By the test of each type.
use Rattle.finder.proofs.Named.{name_one, name_two}
use Rattle.finder.proofs.has_name.Goals as goal

pub returns-then-is_named : goal.returns-then-is_named
returns-then-is_named c = name_one _ _ _ _ c.is_named.ensures c.if-is_named.true

pub returns : goal.returns
returns c = name_two _ _ _ _ c.is_named.ensures c.if-is_named.false c.is_named-2.ensures
