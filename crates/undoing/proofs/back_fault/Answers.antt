-- The test of the reversal decides, then that of the index.
use mathlib.Core.Path.{refl}
use Rattle.undoing.proofs.back_fault.Goals as goal

pub returns-then-not-reverses : goal.returns-then-not-reverses
returns-then-not-reverses c = rw c.if-not-reverses.true refl

pub returns-then-full : goal.returns-then-full
returns-then-full c = rw (c.if-not-reverses.false, c.if-full.true) refl

pub returns : goal.returns
returns c = rw (c.if-not-reverses.false, c.if-full.false) refl
