-- `listing::put_text` meets its contract: nothing where there are no characters, else a space and the characters.
use Rattle.listing.proofs.Escapes.{no_text, some_text}
use Rattle.listing.proofs.put_text.Goals as goal

pub returns-then-characters-eq0 : goal.returns-then-characters-eq0
returns-then-characters-eq0 c = no_text _ c.args.characters.now _ c.if-characters-eq0.true

pub returns : goal.returns
returns c =
    some_text c.args.characters.now c.if-characters-eq0.false c.put_byte-next.ensures c.put_characters.ensures.puts
