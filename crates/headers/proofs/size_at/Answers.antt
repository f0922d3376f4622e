-- Past the end of the slice there is no word, so the second word is 0.
use Prim.Native.Nat.{◌+◌}
use native.Mathlib.Omega.{arith}
use Rattle.words.proofs.Laws.{word_out}
use Rattle.headers.proofs.size_at.Goals as goal

pub overflow_add-at : goal.overflow_add-at
overflow_add-at c = omega arith

pub word-requires : goal.word-requires
word-requires c = tt

pub overflow_add-result : goal.overflow_add-result
overflow_add-result c = omega arith

pub returns-else-at-s : goal.returns-else-at-s
returns-else-at-s c = omega (arith, word_out c.args.s.now (c.args.at + 1) (omega arith))
