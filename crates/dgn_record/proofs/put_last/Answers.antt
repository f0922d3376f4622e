-- Each case as its numbers.
use Rattle.dgn_record.proofs.put_last.Goals as goal

pub returns-in-Flag : goal.returns-in-Flag
returns-in-Flag c =
    rw c.in-Flag.is c.put_five.ensures

pub returns-in-Renamed : goal.returns-in-Renamed
returns-in-Renamed c =
    rw c.in-Renamed.is c.put_five-in-Renamed.ensures

pub returns-in-Inserted : goal.returns-in-Inserted
returns-in-Inserted c =
    rw c.in-Inserted.is (rw c.header_number.ensures at c.put_five-in-Inserted.ensures)

pub returns-in-Removed : goal.returns-in-Removed
returns-in-Removed c =
    rw c.in-Removed.is (rw c.header_number-in-Removed.ensures at c.put_five-in-Removed.ensures)
