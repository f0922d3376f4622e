-- A sum is taken in 16 bits; a difference below zero is zero, as that of the numbers.
use native.Mathlib.Omega.{arith}
use Rattle.totals.proofs.moved_word.Goals as goal

pub returns-then-up : goal.returns-then-up
returns-then-up c = rw c.if-up.true (omega arith)

pub returns-then-w-n : goal.returns-then-w-n
returns-then-w-n c = rw c.if-up.false (omega arith)

pub returns : goal.returns
returns c = rw c.if-up.false (omega arith)
