-- A word and two longs are laid one behind the other (`size_laid`).
use mathlib.Core.Path.{ap, ◌∙◌}
use Prim.Native.Nat.{◌+◌, ◌*◌}
use native.Mathlib.Omega.{arith}
use Rattle.words.specs.Words.{put_long}
use Rattle.text_fields.proofs.Bounds.{numbers}
use Rattle.text_writer.proofs.Laid.{size_laid}
use Rattle.text_writer.proofs.put_size.Goals as goal

pub overflow_mul-text : goal.overflow_mul-text
overflow_mul-text c = let n = numbers _ c.requires.1 in omega (arith, n.byte)

pub overflow_add-text : goal.overflow_add-text
overflow_add-text c = let n = numbers _ c.requires.1 in omega (arith, n.byte)

pub overflow_cast-text : goal.overflow_cast-text
overflow_cast-text c = let n = numbers _ c.requires.1 in omega (arith, n.byte)

pub overflow_cast-text-2 : goal.overflow_cast-text-2
overflow_cast-text-2 c =
    let n = numbers _ c.requires.1 in omega (arith, n.long)

pub overflow_cast-text-3 : goal.overflow_cast-text-3
overflow_cast-text-3 c =
    let n = numbers _ c.requires.1 in omega (arith, n.long)

pub returns : goal.returns
returns c =
    let t = c.args.text in
    let two = c.put_long.ensures ∙ ap (λ l. put_long l 19 t.length) c.put_word.ensures in
    let three = c.put_long-2.ensures ∙ ap (λ l. put_long l 21 t.height) two in
    three ∙ size_laid c.args.out.now (t.font + 256 * t.justification) t.length t.height (omega (arith, c.requires.0))
