-- The test of the word that was read.
use mathlib.Core.Bool.{not}
use mathlib.Core.Path.{ap, ◌∙◌}
use Rattle.dfloats.specs.FirstWord.{is_reserved}
use Rattle.curves.proofs.float_ok.Goals as goal

pub returns : goal.returns
returns c = ap not (c.is_reserved.ensures ∙ ap is_reserved c.word.ensures.is)
