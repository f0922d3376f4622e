-- The four counts, added.
use Rattle.plates.specs.Plates.{levels_at}
use borrow.Author.Rules.{rules}
use Rattle.plates.proofs.levels_at.Goals as goal

pub returns : goal.returns
unfolding levels_at
returns c = search rules
