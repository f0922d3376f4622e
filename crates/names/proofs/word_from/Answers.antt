-- `names::word_from` meets its contract: each code is below 40, so no product and no sum wraps.
use native.Mathlib.Omega.{arith}
use Rattle.names.specs.Names.{word_from}
use Rattle.names.proofs.Texts.{three_small}
use Rattle.names.proofs.word_from.Goals as goal

pub overflow_mul-result : goal.overflow_mul-result
overflow_mul-result c = omega (arith, three_small c.args.text.now c.args.i)

pub overflow_mul-result-2 : goal.overflow_mul-result-2
overflow_mul-result-2 c = omega (arith, three_small c.args.text.now c.args.i)

pub overflow_add-result : goal.overflow_add-result
overflow_add-result c = omega (arith, three_small c.args.text.now c.args.i)

pub overflow_add-result-2 : goal.overflow_add-result-2
overflow_add-result-2 c = omega (arith, three_small c.args.text.now c.args.i)

pub returns : goal.returns
unfolding word_from
returns c = omega arith
