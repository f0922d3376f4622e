-- A place after the start of an element is inside it or after its own words (proofs/Holders).
use mathlib.Core.Path.{sym}
use native.Mathlib.Omega.{arith}
use Rattle.totals.proofs.Holders.{at_itself, at_inside, at_neither}
use Rattle.totals.proofs.holder_at.Goals as goal

pub returns-then-at-place : goal.returns-then-at-place
returns-then-at-place c = sym (at_itself _ _ _ c.if-at-place.true)

pub returns-then-place-at : goal.returns-then-place-at
returns-then-place-at c = sym (at_neither _ _ _ c.if-at-place.false (omega arith))

pub returns : goal.returns
returns c = rw c.size_at-size.ensures (sym (at_inside _ _ _ c.if-at-place.false (omega arith)))
