-- The place of an element that is found lies in the file (`spotted_inside`), so its words are read.
use mathlib.Core.Path.{sym, ◌∙◌}
use native.Mathlib.Omega.{arith}
use Rattle.std.proofs.lemmas.Result.{err_from_is_err_and}
use Rattle.views.specs.Views.{view_of}
use Rattle.places.proofs.Places.{spotted_inside}
use Rattle.views.proofs.view_at.Goals as goal

pub element_at-requires : goal.element_at-requires
element_at-requires c = let i = spotted_inside _ _ _ _ _ _ (sym c.spotted_at.ensures ∙ c.in_ok-spot.was) in omega arith

pub returns-in_err-spot : goal.returns-in_err-spot
unfolding view_of
returns-in_err-spot c =
    let p = err_from_is_err_and c.from_residual.result c.from_residual.ensures.1 in
    rw (p.1, p.2, sym c.spotted_at.ensures ∙ c.in_err-spot.was)

pub returns : goal.returns
unfolding view_of
returns c = rw (sym c.spotted_at.ensures ∙ c.in_ok-spot.was, c.element_at.ensures)
