-- An entry that is there is its eight bytes (`entry_bytes`); where none is there the answer is 0.
use mathlib.Core.Path.{sym}
use native.Mathlib.Omega.{arith}
use Rattle.entries.proofs.Laws.{entry_bytes, entry_out}
use Rattle.entries.proofs.entry.Goals as goal

pub returns-then-i-s : goal.returns-then-i-s
returns-then-i-s c =
    omega (arith, entry_bytes (c.args.s.now) (c.args.i) (c.if-i-s.true), c.pair.ensures.0, c.pair-then-i-s.ensures.0, c.pair-then-i-s-2.ensures.0, c.pair-then-i-s-3.ensures.0)

pub returns-else-i-s : goal.returns-else-i-s
returns-else-i-s c = sym (entry_out (c.args.s.now) _ (c.if-i-s.false))
