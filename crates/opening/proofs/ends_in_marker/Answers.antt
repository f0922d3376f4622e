-- The number of words is half that of bytes, and the word read is the last one.
use borrow.Author.Tests.{le-leb, lt-leb}
use Rattle.words.proofs.Laws.{length_words}
use Rattle.opening.proofs.ends_in_marker.Goals as goal

pub returns-then-n-lt1 : goal.returns-then-n-lt1
returns-then-n-lt1 c = rw (length_words _, lt-leb _ _ c.if-n-lt1.true)

pub returns : goal.returns
returns c = rw (c.word.ensures.is, length_words _, le-leb _ _ c.if-n-lt1.false)
