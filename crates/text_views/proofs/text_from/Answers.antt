-- Each field is what its call answers.
use Prim.Native.Nat.{◌+◌}
use native.Mathlib.Omega.{arith}
use mathlib.Core.Path.{ap, ◌∙◌}
use Rattle.words.specs.Words.{words, word_at}
use Rattle.texts.proofs.Laws.{counts_early}
use Rattle.text_views.specs.TextViews.{text_at}
use Rattle.text_views.proofs.text_from.Goals as goal

pub overflow_add-at-2 : goal.overflow_add-at-2
overflow_add-at-2 c = omega (arith, counts_early c.args.dim, c.counts_word.ensures)

pub odd_at-requires : goal.odd_at-requires
odd_at-requires c =
    let ws = words c.args.file.now in
    (c.requires, c.word-counts.ensures.is ∙ ap (λ i. word_at ws (c.args.at + i)) c.counts_word.ensures)

pub returns : goal.returns
unfolding text_at
returns c =
    rw (c.word-style.ensures.is, c.long.ensures.is, c.long-2.ensures.is, c.turn_at.ensures, c.origin_at.ensures, c.odd_at.ensures, c.word-counts.ensures.is, c.counts_word.ensures)
