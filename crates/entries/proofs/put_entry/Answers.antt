-- Eight stores of a byte are four of a word, and those are the store of an entry (`stored_bytes`).
use native.Mathlib.Omega.{arith}
use lib.ListN.{length-set}
use Rattle.entries.proofs.Laws.{stored_bytes, stored_out}
use Rattle.entries.proofs.put_entry.Goals as goal

pub bounds-s-k-then-i-n : goal.bounds-s-k-then-i-n
bounds-s-k-then-i-n c = simp length-set (omega arith)

pub bounds-s-k-then-i-n-2 : goal.bounds-s-k-then-i-n-2
bounds-s-k-then-i-n-2 c = simp length-set (omega arith)

pub bounds-s-k-then-i-n-3 : goal.bounds-s-k-then-i-n-3
bounds-s-k-then-i-n-3 c = simp length-set (omega arith)

pub bounds-s-k-then-i-n-4 : goal.bounds-s-k-then-i-n-4
bounds-s-k-then-i-n-4 c = simp length-set (omega arith)

pub bounds-s-k-then-i-n-5 : goal.bounds-s-k-then-i-n-5
bounds-s-k-then-i-n-5 c = simp length-set (omega arith)

pub bounds-s-k-then-i-n-6 : goal.bounds-s-k-then-i-n-6
bounds-s-k-then-i-n-6 c = simp length-set (omega arith)

pub bounds-s-k-then-i-n-7 : goal.bounds-s-k-then-i-n-7
bounds-s-k-then-i-n-7 c = simp length-set (omega arith)

pub shape_of-s : goal.shape_of-s
shape_of-s c = simp length-set

pub returns-then-i-n : goal.returns-then-i-n
returns-then-i-n c = stored_bytes (c.args.s.now) (c.args.i) (c.args.e) (c.if-i-n.true) (c.ranges.e.fits)

pub returns-else-i-n : goal.returns-else-i-n
returns-else-i-n c = stored_out (c.args.s.now) (c.args.i) (c.args.e) (c.if-i-n.false)
