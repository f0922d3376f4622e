-- Each arm names types of the list, and a type in neither arm is none of the list.
use mathlib.Core.Bool.{true}
use mathlib.Core.List.{[], ◌∷◌}
use mathlib.Core.Path.{◌≡◌, refl}
use Rattle.kinds.specs.Kinds.{is_linked}
use Rattle.kinds.proofs.Types.{in_arm}
use Rattle.kinds.proofs.is_linked.Goals as goal

pub returns-in-2 : goal.returns-in-2
returns-in-2 c = in_arm (λ t. true ≡ is_linked t) (2 ∷ 4 ∷ 6 ∷ 11 ∷ 14 ∷ 16 ∷ 18 ∷ 21 ∷ []) _ (refl, (refl, (refl, (refl, (refl, (refl, (refl, (refl, tt)))))))) c.in-2.is

pub returns-in-3 : goal.returns-in-3
returns-in-3 c = in_arm (λ t. true ≡ is_linked t) (3 ∷ 7 ∷ 12 ∷ 15 ∷ 17 ∷ 19 ∷ []) _ (refl, (refl, (refl, (refl, (refl, (refl, tt)))))) c.in-3.is
