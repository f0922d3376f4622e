-- `listing::put_number` meets its contract: the digits of the tenth part and one digit more.
use native.Mathlib.Omega.{arith}
use Rattle.listing.proofs.Decimal.{length_tenth}
use Rattle.listing.proofs.Laws.{one_digit, more_digits}
use Rattle.listing.proofs.+put_number.Goals as goal

pub put_byte-requires : goal.put_byte-requires
put_byte-requires t c = omega arith

pub returns-then-n-lt10 : goal.returns-then-n-lt10
returns-then-n-lt10 t c =
    one_digit _ _ _ _ _ c.if-n-lt10.true c.put_byte.ensures

pub put_number-next-requires : goal.put_number-next-requires
put_number-next-requires t c = omega arith

pub put_byte-requires-2 : goal.put_byte-requires-2
put_byte-requires-2 t c =
    omega (arith, length_tenth c.args.n c.if-n-lt10.false (omega arith))

pub returns : goal.returns
returns t c =
    more_digits _ _ _ _ _ _ _ c.if-n-lt10.false (omega arith) c.put_number-next.ensures.puts c.put_byte-2.ensures
