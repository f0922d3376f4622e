-- Of no index nothing is full.
use mathlib.Core.Path.{refl}
use mathlib.Core.Bool.{false}
use mathlib.Core.Option.{none}
use Rattle.undoing.proofs.Ways.{told_step}
use Rattle.undoing.proofs.undo.Goals as goal

pub returns : goal.returns
returns c = told_step _ _ _ _ _ none false refl _ _ (λ ready rec rest e r. refl) c.undo_within.ensures
