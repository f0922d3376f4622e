-- What is found at the place, then its plate by extents, which is the plate.
use mathlib.Core.Path.{refl, sym, ◌∙◌}
use Rattle.std.proofs.lemmas.Result.{err_from_is_err_and}
use Rattle.plates.specs.Plates.{plate_of}
use Rattle.plates.proofs.Calls.{found_is}
use Rattle.plates.proofs.plate_at.Goals as goal

pub returns : goal.returns
returns c = c.plate_in.ensures ∙ found_is _ _ _ _ _ _ (sym c.spotted_at.ensures ∙ c.in_ok-spotted_at.was)

pub returns-in_err-spotted_at : goal.returns-in_err-spotted_at
unfolding plate_of
returns-in_err-spotted_at c =
    let p = err_from_is_err_and c.from_residual.result c.from_residual.ensures.1 in
    rw (p.1, p.2, sym c.spotted_at.ensures ∙ c.in_err-spotted_at.was) refl
