-- A way out where the file is too long, one where the buffer is too short, and else the index (`put_long`, `put_short`, `put_fits`).
use native.Mathlib.Omega.{arith}
use Rattle.indexing.proofs.Puts.{put_long, put_short, put_fits}
use Rattle.indexing.proofs.put_index.Goals as goal

pub returns-then-file-gt1048576 : goal.returns-then-file-gt1048576
returns-then-file-gt1048576 c = put_long _ _ _ c.if-file-gt1048576.true

pub returns-then-index-n : goal.returns-then-index-n
returns-then-index-n c = put_short _ _ _ (omega (arith, c.if-index-n.true, c.count_cells-n.ensures))

pub fill_in-used-requires : goal.fill_in-used-requires
fill_in-used-requires c = record { short = omega (arith, c.if-file-gt1048576.false); counted = c.count_cells-n.ensures; fits = omega (arith, c.if-index-n.false) }

pub returns : goal.returns
returns c = put_fits _ _ _ _ _ c.if-file-gt1048576.false (omega (arith, c.if-index-n.false, c.count_cells-n.ensures)) c.fill_in-used.ensures
