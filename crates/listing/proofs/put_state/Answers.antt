-- `listing::put_state` meets its contract: each way puts the four letters that the flag says.
use native.Mathlib.Omega.{arith}
use Rattle.listing.proofs.put_state.Goals as goal

pub returns-then-deleted : goal.returns-then-deleted
returns-then-deleted c =
    rw c.if-deleted.true (record { puts = c.put_bytes.ensures; upper_bound = omega arith })

pub returns : goal.returns
returns c =
    rw c.if-deleted.false (record { puts = c.put_bytes-2.ensures; upper_bound = omega arith })
