-- A byte of a word that is there is that byte of the slice (`byte_in`); any other is 0 (`byte_none`).
use native.Mathlib.Omega.{arith}
use Rattle.words.proofs.Laws.{lent_below, word_out}
use Rattle.texts.proofs.Laws.{byte_in, byte_none}
use native.Mathlib.Nat.{zero-add}
use Prim.Native.Nat.{◌/◌}
use mathlib.Core.Path.{sym}
use Rattle.words.specs.Words.{words}
use Rattle.texts.proofs.byte.Goals as goal

pub overflow_cast-result : goal.overflow_cast-result
overflow_cast-result c = omega (arith, (c.type_inv.s c.args.k).fits)

pub returns-then-k-s : goal.returns-then-k-s
returns-then-k-s c = byte_in c.args.s.now c.args.k (lent_below c.args.s.now c.type_inv.s) c.if-k-s.true

pub returns-else-k-s : goal.returns-else-k-s
returns-else-k-s c = sym (byte_none (words c.args.s.now) 0 c.args.k (rw (zero-add (c.args.k / 2)) (word_out c.args.s.now (c.args.k / 2) c.if-k-s.false)))
