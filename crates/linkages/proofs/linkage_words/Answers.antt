-- What is picked is what the definition names.
use mathlib.Core.Path.{◌∙◌}
use Rattle.linkages.proofs.Laws.{words_picked}
use Rattle.linkages.proofs.linkage_words.Goals as goal

pub returns : goal.returns
returns c = c.pick-2.ensures ∙ words_picked _ c.pick-user.ensures c.pick.ensures c.pick-other.ensures
