-- A linkage that fits has at least one word and at most end - at, so none fits on either early way out.
use mathlib.Core.Path.{ap, ◌∙◌}
use native.Mathlib.Omega.{arith}
use Rattle.linkages.specs.Linkages.{linkage_words}
use Rattle.linkages.proofs.Laws.{fitting_not, fitting_is}
use Rattle.linkages.proofs.fitting_words.Goals as goal

pub returns-then-end-at : goal.returns-then-end-at
returns-then-end-at c = fitting_not _ _ _ (λ f. omega (arith, f.some, f.within))

pub returns-then-end-at-2 : goal.returns-then-end-at-2
returns-then-end-at-2 c = let e = c.linkage_words-n.ensures ∙ ap linkage_words c.word.ensures.is in fitting_not _ _ _ (λ f. omega (arith, f.within))

pub returns : goal.returns
returns c = let e = c.linkage_words-n.ensures ∙ ap linkage_words c.word.ensures.is in e ∙ fitting_is _ _ _ (omega arith)
