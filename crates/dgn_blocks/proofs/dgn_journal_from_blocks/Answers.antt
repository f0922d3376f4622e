-- No room for the answer, or the library's own.
use lib.ListN.{length}
use Rattle.dgn_blocks.proofs.Moves.{not_answered, small_answer, moved}
use Rattle.dgn_blocks.proofs.Small.{from_small}
use Rattle.dgn_blocks.proofs.dgn_journal_from_blocks.Goals as goal

pub returns-then-out-lt1 : goal.returns-then-out-lt1
returns-then-out-lt1 c = not_answered _ _ _ _ c.if-out-lt1.true

pub put_moved-requires : goal.put_moved-requires
put_moved-requires c =
    let args = c.args in
    (c.if-out-lt1.false, small_answer _ _ _ _ _ c.from_blocks-answer.ensures (from_small args.stored.now (length args.journal.now)))

pub returns : goal.returns
returns c =
    moved _ _ _ _ _ _ _ _ c.if-out-lt1.false c.from_blocks-answer.ensures c.put_moved.ensures
