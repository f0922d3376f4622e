-- The flag is a digit of the word that is read.
use Rattle.finder.proofs.is_live.Goals as goal

pub returns : goal.returns
returns c = rw (← c.word.ensures.is)
