-- The processor's count of a word is that of its 16 bits.
use mathlib.Core.Path.{ap, ◌∙◌}
use native.Mathlib.Omega.{arith}
use lib.Count.{ones_in}
use Rattle.plates.proofs.Levels.{ones_most, ones_all}
use Rattle.plates.proofs.ones.Goals as goal

pub overflow_cast-result : goal.overflow_cast-result
overflow_cast-result c = omega (arith, ones_all 16 (c.word-mask.result) (c.word-mask.ensures.small), ones_most 16 (c.word-mask.result))

pub returns : goal.returns
returns c = record { value = ones_all 16 (c.word-mask.result) (c.word-mask.ensures.small) ∙ ap (ones_in 16) (c.word-mask.ensures.is); upper_bound = omega (arith, ones_all 16 (c.word-mask.result) (c.word-mask.ensures.small), ones_most 16 (c.word-mask.result)) }
