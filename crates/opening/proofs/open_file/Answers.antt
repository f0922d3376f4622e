-- Judging the used file answers 1 for the dimension, then the file's own; the marker's place is compared last.
use mathlib.Core.Path.{sym, ◌∙◌}
use Rattle.std.proofs.lemmas.Result.{err_from_is_err_and}
use Rattle.opening.proofs.Opening.{opened_ready, opened_early, opened_refused}
use Rattle.opening.proofs.open_file.Goals as goal

pub returns-in_err-opened : goal.returns-in_err-opened
returns-in_err-opened c =
    let p = err_from_is_err_and c.from_residual.result c.from_residual.ensures.1 in
    rw (p.1, p.2) (opened_refused _ _ c.requires.0 c.requires.1.1 _ _ (sym c.placed_at.ensures ∙ c.in_err-opened.was))

pub returns-then-opened-last : goal.returns-then-opened-last
returns-then-opened-last c =
    rw c.refused.ensures (opened_early _ _ c.requires.0 c.requires.1.1 _ _
    (sym c.placed_at.ensures ∙ c.in_ok-opened.was) c.if-opened-last.true)

pub returns : goal.returns
returns c =
    opened_ready _ _ c.requires.0 c.requires.1.1 _ _
    (sym c.placed_at.ensures ∙ c.in_ok-opened.was) c.if-opened-last.false
