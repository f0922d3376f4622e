-- Past the table's end nothing is marked.
use Prim.Native.Nat.{◌/◌}
use native.Mathlib.Omega.{arith}
use Rattle.lookup.proofs.Table.{marked_beyond}
use Rattle.lookup.proofs.is_marked.Goals as goal

pub returns-then-t-b : goal.returns-then-t-b
returns-then-t-b c = marked_beyond c.args.t.now c.args.place c.if-t-b.true

pub overflow_cast-result : goal.overflow_cast-result
overflow_cast-result c = omega (arith, c.type_inv.t (c.args.place / 32))
