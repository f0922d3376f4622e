-- Each arm names a type of the list, and a type in neither arm is none of the list.
use mathlib.Core.Bool.{true}
use mathlib.Core.List.{[], ◌∷◌}
use mathlib.Core.Path.{◌≡◌, refl}
use Rattle.kinds.specs.Kinds.{is_curve}
use Rattle.kinds.proofs.Types.{in_arm}
use Rattle.kinds.proofs.is_curve.Goals as goal

pub returns-in-15 : goal.returns-in-15
returns-in-15 c = in_arm (λ t. true ≡ is_curve t) (15 ∷ []) _ (refl, tt) c.in-15.is

pub returns-in-16 : goal.returns-in-16
returns-in-16 c = in_arm (λ t. true ≡ is_curve t) (16 ∷ []) _ (refl, tt) c.in-16.is
