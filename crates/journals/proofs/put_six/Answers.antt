-- The six words as bytes are copied in (`six_put`).
use mathlib.Core.Path.{ap, ◌∙◌}
use Rattle.copies.specs.Copies.{copied}
use Rattle.journals.specs.Journals.{six_put}
use Rattle.journals.proofs.put_six.Goals as goal

pub returns : goal.returns
unfolding six_put
returns c = c.copy_in.ensures ∙ ap (copied _ _) c.trailer-six.ensures
