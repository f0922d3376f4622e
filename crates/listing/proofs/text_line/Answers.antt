-- `listing::text_line` meets its contract: each call puts its part behind those before it, and together they are the line.
use native.Mathlib.Omega.{arith}
use Rattle.listing.specs.Texts.{text_line}
use Rattle.listing.proofs.Laws.{puts_then, line_written, no_line}
use Rattle.listing.proofs.text_line.Goals as goal

pub returns-then-buf-lt48 : goal.returns-then-buf-lt48
returns-then-buf-lt48 c = no_line _ _ _ (omega arith)

pub returns-then-buf-characters : goal.returns-then-buf-characters
returns-then-buf-characters c = no_line _ _ _ (omega arith)

pub returns : goal.returns
unfolding text_line
returns c =
    line_written _ _ _ _ _
    (puts_then c.put_field-at.ensures.puts
    (puts_then c.put_field-at-2.ensures.puts
    (puts_then c.put_state-at.ensures.puts
    (puts_then c.put_text-at.ensures.puts c.put_line_feed.ensures))))
    (omega arith)
    (omega arith)
