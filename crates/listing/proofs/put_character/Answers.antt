-- `listing::put_character` meets its contract: each way puts what the definition has in that case.
use mathlib.Core.Path.{sym, ◌∙◌}
use native.Mathlib.Omega.{arith}
use Rattle.listing.proofs.Escapes.{escape_backslash, escape_printed, other_put}
use Rattle.listing.proofs.put_character.Goals as goal

pub returns-then-c-eq92 : goal.returns-then-c-eq92
returns-then-c-eq92 c =
    record { puts = rw (escape_backslash _ c.if-c-eq92.true) c.put_bytes.ensures; upper_bound = omega arith }

pub returns-then-is_printed : goal.returns-then-is_printed
returns-then-is_printed c =
    let printed = sym c.is_printed.ensures ∙ c.if-is_printed.true in
    record { puts = rw (escape_printed _ c.if-c-eq92.false printed) c.put_byte.ensures; upper_bound = omega arith }

pub returns : goal.returns
returns c =
    let unprinted = sym c.is_printed.ensures ∙ c.if-is_printed.false in record {
      puts = other_put c.if-c-eq92.false unprinted c.hex_digit.ensures c.hex_digit-2.ensures
          c.put_bytes-next.ensures c.put_byte-next.ensures c.put_byte-2.ensures;
      upper_bound = omega arith;
    }
