-- What the file is judged to be and what is found at the place are the definition's.
use mathlib.Core.Path.{sym, ◌∙◌}
use Rattle.std.proofs.lemmas.Result.{err_from_is_err_and}
use Rattle.places.proofs.Places.{placed_none, placed_found}
use Rattle.places.proofs.spotted_at.Goals as goal

pub returns-in_err-placed_at : goal.returns-in_err-placed_at
returns-in_err-placed_at c =
    let p = err_from_is_err_and c.from_residual.result c.from_residual.ensures.1 in
    rw (p.1, p.2) (placed_none _ _ _ _ _ (sym c.placed_at.ensures ∙ c.in_err-placed_at.was))

pub returns : goal.returns
returns c = placed_found _ _ _ _ _ (sym c.placed_at.ensures ∙ c.in_ok-placed_at.was)
