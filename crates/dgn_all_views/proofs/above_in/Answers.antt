-- The header that is kept at the depth; nothing is kept of a depth above 8.
use native.Mathlib.Omega.{arith}
use Rattle.dgn_all_views.proofs.Puts.{above_at, above_deep}
use Rattle.dgn_all_views.proofs.above_in.Goals as goal

pub returns-then-depth-gt8 : goal.returns-then-depth-gt8
returns-then-depth-gt8 c = above_deep c.args.headers c.args.depth c.if-depth-eq0.false (omega arith)

pub returns : goal.returns
returns c = above_at c.args.headers c.args.depth c.if-depth-eq0.false
