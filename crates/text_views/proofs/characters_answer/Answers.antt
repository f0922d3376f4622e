-- What is found at the place, then what stands there.
use mathlib.Core.Path.{refl, sym, ◌∙◌}
use Rattle.std.proofs.lemmas.Result.{err_from_is_err_and}
use Rattle.text_views.specs.TextViews.{characters_of}
use Rattle.text_views.proofs.characters_answer.Goals as goal

pub returns-in_err-spotted_at : goal.returns-in_err-spotted_at
unfolding characters_of
returns-in_err-spotted_at c =
    let p = err_from_is_err_and c.from_residual.result c.from_residual.ensures.1 in
    rw (p.1, p.2, sym c.spotted_at.ensures ∙ c.in_err-spotted_at.was) refl

pub returns : goal.returns
unfolding characters_of
returns c = rw (sym c.spotted_at.ensures ∙ c.in_ok-spotted_at.was) c.characters_in.ensures
