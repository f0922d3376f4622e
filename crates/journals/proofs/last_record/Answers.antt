-- The last word gives the payload's length; the record is then `record_at`'s.
use Rattle.journals.proofs.Records.{last_short, last_over, last_read}
use Rattle.journals.proofs.last_record.Goals as goal

pub returns-then-n-lt6 : goal.returns-then-n-lt6
returns-then-n-lt6 c = last_short _ c.if-n-lt6.true

pub returns-then-t-count : goal.returns-then-t-count
returns-then-t-count c = last_over c.args.journal.now _ c.if-n-lt6.false c.word-count.ensures.is c.if-t-count.true

pub returns : goal.returns
returns c =
    last_read c.args.journal.now _ c.if-n-lt6.false c.word-count.ensures.is _
    c.record_at.ensures
