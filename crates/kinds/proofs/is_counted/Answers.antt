-- Each arm names types of the list, and a type in neither arm is none of the list.
use mathlib.Core.Bool.{true}
use mathlib.Core.List.{[], ◌∷◌}
use mathlib.Core.Path.{◌≡◌, refl}
use Rattle.kinds.specs.Kinds.{is_counted}
use Rattle.kinds.proofs.Types.{in_arm}
use Rattle.kinds.proofs.is_counted.Goals as goal

pub returns-in-7 : goal.returns-in-7
returns-in-7 c = in_arm (λ t. true ≡ is_counted t) (7 ∷ 12 ∷ 14 ∷ 18 ∷ []) _ (refl, (refl, (refl, (refl, tt)))) c.in-7.is

pub returns-in-19 : goal.returns-in-19
returns-in-19 c = in_arm (λ t. true ≡ is_counted t) (19 ∷ []) _ (refl, tt) c.in-19.is
