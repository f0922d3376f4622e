-- Each field is what its call answers.
use Rattle.views.specs.Views.{element_view}
use Rattle.views.proofs.element_at.Goals as goal

pub returns : goal.returns
unfolding element_view
returns c =
    rw (
      c.word-w.ensures.is,
      c.size_at.ensures,
      c.range_at.ensures,
      c.display_at.ensures,
      c.name_at.ensures,
      c.number_if.ensures,
      c.number_if-2.ensures,
      c.number_if-3.ensures,
      c.is_pointed.ensures,
      c.is_header.ensures,
      c.is_counted.ensures,
      c.word-word_18.ensures.is,
      c.word.ensures.is,
      c.type_at-t.ensures,
    )
