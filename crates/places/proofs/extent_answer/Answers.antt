-- The answer goes by the cases of what is found at the place.
use mathlib.Core.Path.{sym, ◌∙◌}
use Rattle.std.proofs.lemmas.Result.{err_from_is_err_and}
use Rattle.places.specs.Extents.{extent_answer}
use Rattle.places.proofs.extent_answer.Goals as goal

pub returns-in_err-spot : goal.returns-in_err-spot
unfolding extent_answer
returns-in_err-spot c =
    let p = err_from_is_err_and c.from_residual.result c.from_residual.ensures.1 in
    rw (p.1, p.2, sym c.spotted_at.ensures ∙ c.in_err-spot.was)

pub returns : goal.returns
unfolding extent_answer
returns c = rw (sym c.spotted_at.ensures ∙ c.in_ok-spot.was)
