-- By the order of the types (`plain_late`).
use borrow.Author.Tests.{lt-ltb, le-ltb}
use Rattle.kinds.proofs.Types.{plain_late}
use Rattle.elements.proofs.is_late.Goals as goal

pub returns-then-t-lt15 : goal.returns-then-t-lt15
returns-then-t-lt15 c = rw (lt-ltb _ 15 c.if-t-lt15.true) at (plain_late c.args.t c.requires.0 c.requires.1)

pub returns : goal.returns
returns c = rw (le-ltb _ 15 c.if-t-lt15.false) at (plain_late c.args.t c.requires.0 c.requires.1)
