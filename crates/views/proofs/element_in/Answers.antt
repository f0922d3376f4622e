-- The test is whether a word stands there.
use Rattle.views.proofs.Known.{known_there, known_none}
use Rattle.views.proofs.element_in.Goals as goal

pub returns-then-at-file : goal.returns-then-at-file
returns-then-at-file c =
    known_there c.args.file.now c.args.at c.args.depth c.args.above _ c.if-at-file.true c.element_at.ensures

pub returns : goal.returns
returns c =
    known_none c.args.file.now c.args.at c.args.depth c.args.above c.if-at-file.false
