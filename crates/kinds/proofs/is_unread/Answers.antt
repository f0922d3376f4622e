-- The arm's numbers are the list.
use mathlib.Core.Bool.{true}
use mathlib.Core.List.{[], ◌∷◌}
use mathlib.Core.Path.{◌≡◌, refl}
use Rattle.kinds.specs.Kinds.{is_unread}
use Rattle.kinds.proofs.Types.{in_arm}
use Rattle.kinds.proofs.is_unread.Goals as goal

pub returns-in-24 : goal.returns-in-24
returns-in-24 c = in_arm (λ t. true ≡ is_unread t) (24 ∷ 27 ∷ 87 ∷ []) _ (refl, (refl, (refl, tt))) c.in-24.is
