-- By the number's size.
use mir.Syntax.{w64}
use mir.ValLaws.{to_z_pos}
use borrow.Author.Tests.{lt-ltb, le-ltb}
use Rattle.view_numbers.proofs.as_signed.Goals as goal

pub returns-then-n-lt9223372036854775808 : goal.returns-then-n-lt9223372036854775808
returns-then-n-lt9223372036854775808 c = rw (to_z_pos w64 c.args.n c.if-n-lt9223372036854775808.true) (simp (lt-ltb _ 9223372036854775808 c.if-n-lt9223372036854775808.true))

pub returns : goal.returns
returns c = simp (le-ltb _ 9223372036854775808 c.if-n-lt9223372036854775808.false)
