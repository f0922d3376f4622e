-- Nothing is kept of a depth above 8.
use mathlib.Core.Path.{sym}
use native.Mathlib.Omega.{arith}
use lib.ListN.{get_or-eq_default}
use Rattle.walking.proofs.end_in.Goals as goal

pub returns-then-depth-gt8 : goal.returns-then-depth-gt8
returns-then-depth-gt8 c = sym (get_or-eq_default c.args.ends 0 (omega arith))
