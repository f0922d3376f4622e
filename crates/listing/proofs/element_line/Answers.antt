-- `listing::element_line` meets its contract: each call puts its part behind those before it, and together they are the line.
use native.Mathlib.Omega.{arith}
use Rattle.listing.specs.Lines.{element_line}
use Rattle.listing.proofs.Laws.{puts_then, line_written, no_line}
use Rattle.listing.proofs.element_line.Goals as goal

pub returns-then-buf-lt100 : goal.returns-then-buf-lt100
returns-then-buf-lt100 c = no_line _ _ _ c.if-buf-lt100.true

pub returns : goal.returns
unfolding element_line
returns c =
    line_written _ _ _ _ _
    (puts_then c.put_field-at.ensures.puts
    (puts_then c.put_field-at-2.ensures.puts
    (puts_then c.put_field-at-3.ensures.puts
    (puts_then c.put_field-at-4.ensures.puts
    (puts_then c.put_state-at.ensures.puts
    (puts_then c.put_name-at.ensures.puts c.put_line_feed.ensures))))))
    (omega arith)
    c.if-buf-lt100.false
