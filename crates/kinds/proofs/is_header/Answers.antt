-- Each arm names types of the list, and a type in neither arm is none of the list.
use mathlib.Core.Bool.{true}
use mathlib.Core.List.{[], ◌∷◌}
use mathlib.Core.Path.{◌≡◌, refl}
use Rattle.kinds.specs.Kinds.{is_header}
use Rattle.kinds.proofs.Types.{in_arm}
use Rattle.kinds.proofs.is_header.Goals as goal

pub returns-in-1 : goal.returns-in-1
returns-in-1 c = in_arm (λ t. true ≡ is_header t) (1 ∷ 7 ∷ 12 ∷ 14 ∷ 18 ∷ []) _ (refl, (refl, (refl, (refl, (refl, tt))))) c.in-1.is

pub returns-in-2 : goal.returns-in-2
returns-in-2 c = in_arm (λ t. true ≡ is_header t) (2 ∷ 19 ∷ []) _ (refl, (refl, tt)) c.in-2.is
