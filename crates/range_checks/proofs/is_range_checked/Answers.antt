-- Each arm of the match holds types of the list (`in_arm`), and what is in no arm is in no such list (`none_in`).
use mathlib.Core.Path.{◌≡◌, refl}
use mathlib.Core.List.{[], ◌∷◌}
use mathlib.Core.Bool.{true}
use Rattle.kinds.proofs.Types.{in_arm}
use Rattle.range_checks.specs.InRange.{is_range_checked}
use Rattle.range_checks.proofs.is_range_checked.Goals as goal

pub returns-in-3 : goal.returns-in-3
returns-in-3 c = in_arm (λ t. true ≡ is_range_checked t) (3 ∷ 6 ∷ 11 ∷ []) _ (refl, (refl, (refl, tt))) c.in-3.is

pub returns-in-4 : goal.returns-in-4
returns-in-4 c = in_arm (λ t. true ≡ is_range_checked t) (4 ∷ []) _ (refl, tt) c.in-4.is
