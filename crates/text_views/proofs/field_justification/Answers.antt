-- 255 is -1, and any other byte itself.
use mir.Syntax.{w64}
use mir.ValLaws.{to_z_pos}
use native.Mathlib.Omega.{arith}
use borrow.Author.Tests.{eq-eqb, ne_eqb}
use Rattle.text_views.proofs.field_justification.Goals as goal

pub returns-then-byte-eq255 : goal.returns-then-byte-eq255
returns-then-byte-eq255 c = rw (eq-eqb _ 255 c.if-byte-eq255.true)

pub returns : goal.returns
returns c = rw (ne_eqb _ 255 c.if-byte-eq255.false) (to_z_pos w64 _ (omega (arith, c.requires)))
