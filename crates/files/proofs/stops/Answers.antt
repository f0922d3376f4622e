-- Where `each` holds the definition is true; else it is the comparison that is returned.
use mathlib.Core.Path.{refl}
use Rattle.files.proofs.stops.Goals as goal

pub returns : goal.returns
returns c = rw c.if-each.false refl
