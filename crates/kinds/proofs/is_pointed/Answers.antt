-- The arm's numbers are the list.
use mathlib.Core.Bool.{true}
use mathlib.Core.List.{[], ◌∷◌}
use mathlib.Core.Path.{◌≡◌, refl}
use Rattle.kinds.specs.Kinds.{is_pointed}
use Rattle.kinds.proofs.Types.{in_arm}
use Rattle.kinds.proofs.is_pointed.Goals as goal

pub returns-in-4 : goal.returns-in-4
returns-in-4 c = in_arm (λ t. true ≡ is_pointed t) (4 ∷ 6 ∷ 11 ∷ 21 ∷ []) _ (refl, (refl, (refl, (refl, tt)))) c.in-4.is
