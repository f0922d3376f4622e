-- The answer by its case: put as an edit's with the index's used length.
use Rattle.dgn_indexed.proofs.put.Goals as goal

pub returns-in-Ok : goal.returns-in-Ok
returns-in-Ok c =
    rw (c.in-Ok.is) (c.put_indexed.ensures)

pub returns-in-Err : goal.returns-in-Err
returns-in-Err c =
    rw (c.in-Err.is) (c.put_indexed-in-Err.ensures)
