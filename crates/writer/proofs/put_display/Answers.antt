-- Four stores one after another lay the words 14 to 17.
use mathlib.Core.Path.{ap, ◌∙◌}
use native.Mathlib.Omega.{arith}
use Rattle.words.specs.Words.{put_word}
use Rattle.fields.specs.Words.{symbology, display_words}
use Rattle.fields.proofs.Bounds.{bounds}
use Rattle.writer.proofs.Stores.{words_laid}
use Rattle.writer.proofs.put_display.Goals as goal

pub overflow_mul-symbology : goal.overflow_mul-symbology
overflow_mul-symbology c = let b = bounds _ (c.requires.1) in omega arith

pub overflow_add-symbology : goal.overflow_add-symbology
overflow_add-symbology c = let b = bounds _ (c.requires.1) in omega arith

pub overflow_mul-symbology-2 : goal.overflow_mul-symbology-2
overflow_mul-symbology-2 c = let b = bounds _ (c.requires.1) in omega arith

pub overflow_add-symbology-2 : goal.overflow_add-symbology-2
overflow_add-symbology-2 c = let b = bounds _ (c.requires.1) in omega arith

pub overflow_cast-fields : goal.overflow_cast-fields
overflow_cast-fields c =
    let b = bounds _ c.requires.1 in
    omega (arith, b.words)

pub overflow_cast-fields-2 : goal.overflow_cast-fields-2
overflow_cast-fields-2 c =
    let b = bounds _ c.requires.1 in
    omega (arith, b.words)

pub overflow_cast-fields-3 : goal.overflow_cast-fields-3
overflow_cast-fields-3 c =
    let b = bounds _ c.requires.1 in
    omega (arith, b.words)

pub overflow_cast-symbology : goal.overflow_cast-symbology
overflow_cast-symbology c =
    let b = bounds _ c.requires.1 in
    omega (arith, b.style, b.weight, b.colour)

pub returns : goal.returns
unfolding symbology
returns c =
    let f = c.args.fields in
    let one = c.put_word.ensures in
    let two = c.put_word-2.ensures ∙ ap (λ x. put_word x 15 f.index) one in
    let three = c.put_word-3.ensures ∙ ap (λ x. put_word x 16 f.properties) two in
    let four = c.put_word-4.ensures ∙ ap (λ x. put_word x 17 (symbology f)) three in
    four ∙ words_laid c.args.out.now 14 (display_words f) (omega (arith, c.requires.0))
