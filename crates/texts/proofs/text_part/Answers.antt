-- The sum is the definition's; the word of the counts is early, so no sum wraps.
use native.Mathlib.Omega.{arith}
use Rattle.texts.specs.Texts.{text_part}
use Rattle.texts.proofs.Laws.{counts_early}
use Rattle.texts.proofs.text_part.Goals as goal

pub overflow_add-result : goal.overflow_add-result
overflow_add-result c = omega (arith, c.counts_word.ensures, counts_early c.args.dim)

pub overflow_add-result-4 : goal.overflow_add-result-4
overflow_add-result-4 c = omega (arith, c.counts_word.ensures, counts_early c.args.dim)

pub returns : goal.returns
unfolding text_part
returns c = rw c.counts_word.ensures
