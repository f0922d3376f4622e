-- What is stored behind what was laid is laid with it (`header_laid_lem`).
use Prim.Native.Nat.{◌-◌}
use mathlib.Core.Path.{ap, ◌∙◌}
use native.Mathlib.Omega.{arith}
use Rattle.words.specs.Words.{put_word}
use Rattle.fields.specs.Words.{longs, range_longs, display_words}
use Rattle.writer.specs.Writing.{laid}
use Rattle.fields.proofs.Bounds.{bounds}
use Rattle.fields.proofs.Element.{first_small}
use Rattle.writer.proofs.Laid.{header_laid_lem}
use Rattle.writer.proofs.put_header_words.Goals as goal

pub first_word-requires : goal.first_word-requires
first_word-requires c = let b = bounds _ (c.requires.kind_bound.1) in (omega arith, c.requires.kind_bound.0)

pub overflow_cast-first_word : goal.overflow_cast-first_word
overflow_cast-first_word c = let b = bounds _ (c.requires.kind_bound.1) in omega (arith, c.first_word.ensures, first_small (c.args.fields) b.level c.requires.kind_bound.0)

pub returns : goal.returns
returns c =
    let f = c.args.fields in
    let one = c.put_word.ensures ∙ ap (put_word c.args.out.now 0)
    c.first_word.ensures in
    let two = c.put_word-2.ensures ∙ ap (λ x. put_word x 1 (c.args.size - 2)) one in
    let range = c.put_range.ensures ∙ ap (λ x. laid x 2 (longs (range_longs f))) two in
    let display = c.put_display.ensures ∙ ap (λ x. laid x 14 (display_words f)) range in
    display ∙ header_laid_lem c.args.out.now f c.args.size c.requires.in_bounds.0
