-- By the type and the number of fields; a field's three bytes are the file's (`field_there`).
use Prim.Native.Nat.{◌+◌, ◌/◌, ◌≤◌, ◌<◌}
use mathlib.Core.Path.{◌≡◌, sym, ap, ◌∙◌}
use native.Mathlib.Omega.{arith}
use lib.ListN.{length}
use borrow.Author.Tests.{ne_eqb}
use Rattle.words.specs.Words.{words, word_at}
use Rattle.headers.specs.Header.{type_at}
use Rattle.texts.specs.Texts.{counts_at}
use Rattle.texts.proofs.Laws.{counts_early}
use Rattle.text_views.specs.TextViews.{field_in}
use Rattle.text_views.proofs.Bytes.{text_inside, byte_below, field_none, field_there}
use Rattle.text_views.proofs.field_in.Goals as goal
use Rattle.text_views.proofs.field_in.Goals.{After-counts_word, After-word-counts, Else-counts-k}

-- the word of the counts is near the text's start, which lies in the file
near : (c : After-counts_word) → (c.counts_word.result ≤ 37) × (c.args.at < length c.args.file.now / 2)
near c =
    let early = counts_early c.args.dim in
    let is = c.counts_word.ensures in
    (omega arith, text_inside c.args.file.now c.args.at _ c.type_at.ensures c.if-type_at-ne17.false)

-- it is a text, and these are its counts
text : (c : After-word-counts) → let ws = words c.args.file.now in (type_at ws c.args.at ≡ 17) × (c.word-counts.result ≡ counts_at c.args.dim ws c.args.at) × (c.word-counts.result < 65536)
text c =
    let ws = words c.args.file.now in
    (sym c.type_at.ensures ∙ c.if-type_at-ne17.false, c.word-counts.ensures.is ∙ ap (λ i. word_at ws (c.args.at + i)) c.counts_word.ensures, c.word-counts.ensures.small)

-- so no sum wraps
small : (c : Else-counts-k) → (c.counts_word.result ≤ 37) × (c.args.at < length c.args.file.now / 2) × (c.word-counts.result < 65536) × (c.args.k < c.word-counts.result / 256)
small c =
    let early = counts_early c.args.dim in
    let is = c.counts_word.ensures in
    (omega arith, text_inside c.args.file.now c.args.at _ c.type_at.ensures c.if-type_at-ne17.false, c.word-counts.ensures.small, c.if-counts-k.false)

pub returns-then-type_at-ne17 : goal.returns-then-type_at-ne17
unfolding field_in
returns-then-type_at-ne17 c = rw (ne_eqb _ 17 (rw c.type_at.ensures at c.if-type_at-ne17.true))

pub overflow_add-place : goal.overflow_add-place
overflow_add-place c = omega (arith, near (goal.at.overflow_add-place c).After-counts_word)

pub returns-then-counts-k : goal.returns-then-counts-k
returns-then-counts-k c =
    field_none c.args.dim (words c.args.file.now) c.args.at _ c.args.k (text (goal.at.returns-then-counts-k c).After-word-counts).0 (text (goal.at.returns-then-counts-k c).After-word-counts).1 c.if-counts-k.true

pub overflow_add-j : goal.overflow_add-j
overflow_add-j c = omega (arith, small (goal.at.overflow_add-j c).Else-counts-k)

pub overflow_mul-j : goal.overflow_mul-j
overflow_mul-j c = omega (arith, small (goal.at.overflow_mul-j c).Else-counts-k)

pub overflow_add-j-2 : goal.overflow_add-j-2
overflow_add-j-2 c = omega (arith, small (goal.at.overflow_add-j-2 c).Else-counts-k)

pub overflow_add-j-3 : goal.overflow_add-j-3
overflow_add-j-3 c = omega (arith, small (goal.at.overflow_add-j-3 c).Else-counts-k)

pub overflow_cast-result : goal.overflow_cast-result
overflow_cast-result c = let b = byte_below _ _ _ _ c.byte.ensures in omega arith

pub overflow_add-j-4 : goal.overflow_add-j-4
overflow_add-j-4 c = omega (arith, small (goal.at.overflow_add-j-4 c).Else-counts-k)

pub overflow_cast-result-2 : goal.overflow_cast-result-2
overflow_cast-result-2 c = let b = byte_below _ _ _ _ c.byte-2.ensures in omega arith

pub overflow_add-j-5 : goal.overflow_add-j-5
overflow_add-j-5 c = omega (arith, small (goal.at.overflow_add-j-5 c).Else-counts-k)

pub field_justification-requires : goal.field_justification-requires
field_justification-requires c = byte_below _ _ _ _ c.byte-3.ensures

pub returns : goal.returns
returns c =
    field_there c.args.dim (words c.args.file.now) c.args.at _ c.args.k (text (goal.at.returns c).After-word-counts).0 (text (goal.at.returns c).After-word-counts).1
    c.if-counts-k.false _ _ _ _ _ (omega (arith, c.counts_word.ensures)) c.byte.ensures c.byte-2.ensures c.byte-3.ensures c.field_justification.ensures
