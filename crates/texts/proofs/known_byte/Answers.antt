-- A byte that is known to be there is that byte of the slice (`byte_in`).
use native.Mathlib.Omega.{arith}
use Rattle.words.proofs.Laws.{lent_below}
use Rattle.texts.proofs.Laws.{byte_in}
use Rattle.texts.proofs.known_byte.Goals as goal

pub bounds-s-k : goal.bounds-s-k
bounds-s-k c = let there = c.requires c.if-known.true in omega arith

pub overflow_cast-result : goal.overflow_cast-result
overflow_cast-result c = omega (arith, (c.type_inv.s c.args.k).fits)

pub returns-then-known : goal.returns-then-known
returns-then-known c =
    byte_in c.args.s.now c.args.k (lent_below c.args.s.now c.type_inv.s) (c.requires c.if-known.true)
