-- Two stores of a byte are the store of a word that is there (`put_in`); where none is there nothing changes (`put_out`).
use mathlib.Core.Path.{sym}
use native.Mathlib.Omega.{arith}
use lib.ListN.{length-set}
use Rattle.words.proofs.Laws.{put_in, put_out}
use Rattle.words.proofs.put_word.Goals as goal

pub bounds-s-k-then-i-n : goal.bounds-s-k-then-i-n
bounds-s-k-then-i-n c = simp length-set (omega arith)

pub returns-then-i-n : goal.returns-then-i-n
returns-then-i-n c = sym (put_in c.args.s.now _ _ c.if-i-n.true)

pub returns-else-i-n : goal.returns-else-i-n
returns-else-i-n c = sym (put_out c.args.s.now _ _ c.if-i-n.false)
