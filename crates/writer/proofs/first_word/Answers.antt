-- Each bit is at most 1 (`bit_small`), the level below 64 and the type below 128, so that no sum wraps and it is the definition's.
use native.Mathlib.Omega.{arith}
use Rattle.fields.specs.Words.{first_word}
use Rattle.fields.proofs.Element.{bit_small}
use Rattle.writer.proofs.first_word.Goals as goal

pub overflow_mul-result : goal.overflow_mul-result
overflow_mul-result c = omega (arith, c.pick.ensures, bit_small (c.args.fields.c))

pub overflow_add-result : goal.overflow_add-result
overflow_add-result c = omega (arith, c.pick.ensures, bit_small (c.args.fields.c), c.requires)

pub overflow_add-result-2 : goal.overflow_add-result-2
overflow_add-result-2 c = omega (arith, c.pick.ensures, bit_small (c.args.fields.c), c.requires)

pub overflow_mul-result-3 : goal.overflow_mul-result-3
overflow_mul-result-3 c = omega (arith, c.pick-2.ensures, bit_small (c.args.fields.deleted))

pub overflow_add-result-3 : goal.overflow_add-result-3
overflow_add-result-3 c = omega (arith, c.pick.ensures, bit_small (c.args.fields.c), c.pick-2.ensures, bit_small (c.args.fields.deleted), c.requires)

pub returns : goal.returns
unfolding first_word
returns c = omega (arith, c.pick.ensures, c.pick-2.ensures)
