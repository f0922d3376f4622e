-- `listing::heading` meets its contract: its bytes are those of the definition.
use Rattle.listing.specs.Lines.{heading_line}
use Rattle.listing.proofs.heading.Goals as goal

pub returns : goal.returns
unfolding heading_line
returns c = c.fixed_line.ensures
