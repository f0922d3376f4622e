-- The count is corrected where it is asked for and the type has one; each way out is a law of proofs/Descent.
use mathlib.Core.Path.{sym, ap, ◌∙◌}
use Rattle.kinds.specs.Kinds.{is_counted}
use Rattle.totals.specs.Totals.{word_moved}
use Rattle.totals.proofs.Descent.{put_counted, put_uncounted, put_around}
use Rattle.totals.proofs.correct_header.Goals as goal

pub returns-then-counted : goal.returns-then-counted
returns-then-counted c =
    c.move_word-then-counted.ensures ∙ ap (word_moved _ 1 _) c.move_word.ensures ∙ sym
    (put_counted _ _ _ _ _ c.if-direct.true
    (ap is_counted (sym c.type_at.ensures) ∙ sym c.is_counted-counted.ensures ∙ c.if-counted.true))

pub returns-else-counted : goal.returns-else-counted
returns-else-counted c =
    c.move_word.ensures ∙ sym
    (put_uncounted _ _ _ _ _ c.if-direct.true
    (ap is_counted (sym c.type_at.ensures) ∙ sym c.is_counted-counted.ensures ∙ c.if-counted.false))

pub returns-else-direct : goal.returns-else-direct
returns-else-direct c = c.move_word.ensures ∙ sym (put_around _ _ _ _ _ c.if-direct.false)
