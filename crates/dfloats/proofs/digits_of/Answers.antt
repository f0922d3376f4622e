-- The sum is the definition's.
use borrow.Author.Rules.{rules}
use Rattle.dfloats.specs.Fields.{digits}
use Rattle.dfloats.proofs.digits_of.Goals as goal

pub returns : goal.returns
unfolding digits
returns c = search rules
