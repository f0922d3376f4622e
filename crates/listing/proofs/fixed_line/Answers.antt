-- `listing::fixed_line` meets its contract: one call puts the whole line.
use native.Mathlib.Omega.{arith}
use Rattle.listing.proofs.Laws.{line_written, no_line}
use Rattle.listing.proofs.fixed_line.Goals as goal

pub returns-then-buf-lt100 : goal.returns-then-buf-lt100
returns-then-buf-lt100 c = no_line _ _ _ c.if-buf-lt100.true

pub returns : goal.returns
returns c =
    line_written _ _ _ _ _ c.put_bytes.ensures (omega arith) c.if-buf-lt100.false
