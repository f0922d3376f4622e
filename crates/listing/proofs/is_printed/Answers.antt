-- `listing::is_printed` meets its contract: the first test is the definition's first.
use mathlib.Core.Path.{refl}
use borrow.Author.Tests.{lt-leb, le-leb}
use Rattle.listing.proofs.is_printed.Goals as goal

pub returns-then-c-lt32 : goal.returns-then-c-lt32
returns-then-c-lt32 c = rw (lt-leb 32 _ c.if-c-lt32.true) refl

pub returns : goal.returns
returns c = rw (le-leb 32 _ c.if-c-lt32.false) refl
