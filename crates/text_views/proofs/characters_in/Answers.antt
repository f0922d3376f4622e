-- By the type; the characters follow the word of the counts (`characters_there`).
use Prim.Native.Nat.{◌/◌, ◌≤◌, ◌<◌}
use mathlib.Core.Path.{sym, ◌∙◌}
use native.Mathlib.Omega.{arith}
use lib.ListN.{length}
use borrow.Author.Tests.{ne_eqb}
use Rattle.words.specs.Words.{words}
use Rattle.texts.proofs.Laws.{counts_early}
use Rattle.text_views.specs.TextViews.{characters_at}
use Rattle.text_views.proofs.Bytes.{text_inside, characters_there}
use Rattle.text_views.proofs.characters_in.Goals as goal
use Rattle.text_views.proofs.characters_in.Goals.{After-counts_word}

-- the word of the counts is near the text's start, which lies in the file
near : (c : After-counts_word) → (c.counts_word.result ≤ 37) × (c.args.at < length c.args.file.now / 2)
near c =
    let early = counts_early c.args.dim in
    let is = c.counts_word.ensures in
    (omega arith, text_inside c.args.file.now c.args.at _ c.type_at.ensures c.if-type_at-ne17.false)

pub returns-then-type_at-ne17 : goal.returns-then-type_at-ne17
unfolding characters_at
returns-then-type_at-ne17 c = rw (ne_eqb _ 17 (rw c.type_at.ensures at c.if-type_at-ne17.true))

pub overflow_add-place : goal.overflow_add-place
overflow_add-place c = omega (arith, near (goal.at.overflow_add-place c).After-counts_word)

pub overflow_add-result : goal.overflow_add-result
overflow_add-result c = omega (arith, near (goal.at.overflow_add-result c).After-counts_word)

pub overflow_mul-result : goal.overflow_mul-result
overflow_mul-result c = omega (arith, near (goal.at.overflow_mul-result c).After-counts_word)

pub returns : goal.returns
returns c =
    characters_there c.args.dim (words c.args.file.now) c.args.at _ _ (sym c.type_at.ensures ∙ c.if-type_at-ne17.false) c.counts_word.ensures c.word.ensures.is
