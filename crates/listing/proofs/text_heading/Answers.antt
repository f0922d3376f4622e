-- `listing::text_heading` meets its contract: its bytes are those of the definition.
use Rattle.listing.specs.Texts.{text_heading}
use Rattle.listing.proofs.text_heading.Goals as goal

pub returns : goal.returns
unfolding text_heading
returns c = c.fixed_line.ensures
