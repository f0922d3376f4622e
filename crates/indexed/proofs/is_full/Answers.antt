-- More cells than whole entries fit (`full_test`).
use Rattle.indexed.proofs.Parts.{full_test}
use Rattle.indexed.proofs.is_full.Goals as goal

pub returns : goal.returns
returns c = full_test (c.args.index_len) (c.args.cells)
