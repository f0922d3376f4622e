-- The type decides as in `display_of`, and each word is read at its place.
use mathlib.Core.Path.{sym, ap, ◌∙◌}
use Rattle.kinds.specs.Kinds.{is_linked}
use Rattle.views.specs.Views.{display_of}
use Rattle.views.proofs.display_at.Goals as goal

pub returns-then-is_linked : goal.returns-then-is_linked
unfolding display_of
returns-then-is_linked c =
    rw (
      c.word-symbology.ensures.is,
      c.word.ensures.is,
      c.word-then-is_linked.ensures.is,
      c.word-then-is_linked-2.ensures.is,
      ap is_linked (sym c.type_at.ensures) ∙ sym c.is_linked.ensures ∙
          c.if-is_linked.true,
    )

pub returns : goal.returns
unfolding display_of
returns c = rw (ap is_linked (sym c.type_at.ensures) ∙ sym c.is_linked.ensures ∙ c.if-is_linked.false)
