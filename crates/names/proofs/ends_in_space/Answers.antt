-- `names::ends_in_space` meets its contract: where the text is empty, what stands at its last place is 0, no space.
use mathlib.Core.Path.{sym, ap}
use native.Mathlib.Omega.{arith}
use lib.Dec.{eqb}
use lib.ListN.{get_or-eq_default}
use Rattle.names.proofs.ends_in_space.Goals as goal

pub returns-then-n-eq0 : goal.returns-then-n-eq0
returns-then-n-eq0 c = sym (ap (λ b. eqb b 32) (get_or-eq_default c.args.text.now 0 (omega arith)))
