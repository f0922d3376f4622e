-- The fixed part has two words for each coordinate at most (`fixed_most`), so it fits a number with the tail.
use native.Mathlib.Omega.{arith}
use Rattle.fields.specs.Words.{size_of}
use Rattle.fields.proofs.Bounds.{called, fixed_most}
use Rattle.fields.proofs.size_of.Goals as goal

pub fixed_words-requires : goal.fixed_words-requires
fixed_words-requires c = let k = called c.requires.tail_value in record { dim_value = (k.dims, (k.kind, k.fit)); dim_value_2 = c.requires.points_value }

pub overflow_add-result : goal.overflow_add-result
overflow_add-result c = let k = called c.requires.tail_value in omega (arith, c.fixed_words.ensures, fixed_most _ _ _ k.dims k.kind k.fit)

pub returns : goal.returns
unfolding size_of
returns c = omega (arith, c.fixed_words.ensures)
