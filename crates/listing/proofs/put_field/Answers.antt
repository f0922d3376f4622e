-- `listing::put_field` meets its contract: a number and the space behind it.
use native.Mathlib.Omega.{arith}
use Rattle.listing.proofs.Laws.{puts_then}
use Rattle.listing.proofs.put_field.Goals as goal

pub returns : goal.returns
returns c =
    record { puts = puts_then c.put_number-next.ensures.puts c.put_byte.ensures; upper_bound = omega arith }
