-- The tail begins where the fixed part ends, so its attribute part is the element's (`tail_linkages`).
use native.Mathlib.Omega.{arith}
use mathlib.Core.Path.{◌∙◌}
use Rattle.fields.proofs.Bounds.{called, fixed_least}
use Rattle.fields.proofs.Element.{tail_linkages}
use Rattle.fields.proofs.linkages_ok.Goals as goal

pub fixed_words-first-requires : goal.fixed_words-first-requires
fixed_words-first-requires c = let k = called c.requires.tail_value in record { dim_value = (k.dims, (k.kind, k.fit)); dim_value_2 = c.requires.points_value }

pub overflow_sub-first : goal.overflow_sub-first
overflow_sub-first c = let k = called c.requires.tail_value in omega (arith, c.fixed_words-first.ensures, fixed_least _ _ _ k.dims k.kind k.fit)

pub returns : goal.returns
returns c = rw c.fixed_words-first.ensures at c.tail_ok.ensures ∙ tail_linkages _ _ _ _ (called c.requires.tail_value)
