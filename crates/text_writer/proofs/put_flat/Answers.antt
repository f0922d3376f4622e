-- Three stores one after another lay three longs; a field's number is the one that was handed in, since it fits (`to_z-of_z`).
use mathlib.Core.Path.{ap, ◌∙◌}
use native.Mathlib.Omega.{arith}
use mir.Syntax.{w32}
use mir.Facts.{to_z-of_z}
use mathlib.Core.List.{[], ◌∷◌}
use Rattle.words.specs.Words.{put_long, unsigned}
use Rattle.writer.proofs.Stores.{longs_laid}
use Rattle.text_fields.proofs.Bounds.{numbers}
use Rattle.text_writer.proofs.put_flat.Goals as goal

pub overflow_cast-text : goal.overflow_cast-text
overflow_cast-text c = let n = numbers _ c.requires.1 in omega (arith, n.long)

pub returns : goal.returns
returns c =
    let d = c.args.out.now in
    let t = c.args.text in
    let x = to_z-of_z {w = w32} {z = t.x} (record { sfits = omega arith }) in
    let y = to_z-of_z {w = w32} {z = t.y} (record { sfits = omega arith }) in
    let two = c.put_signed_long.ensures ∙ ap (λ z. put_long c.put_long.new.s 25 (unsigned z)) x ∙ ap (λ l. put_long l 25 (unsigned t.x)) c.put_long.ensures in
    let three = c.put_signed_long-2.ensures ∙ ap (λ z. put_long c.put_signed_long.new.s 27 (unsigned z)) y ∙ ap (λ l. put_long l 27 (unsigned t.y)) two in
    three ∙ longs_laid d 23 (t.first ∷ unsigned t.x ∷ unsigned t.y ∷ []) (omega (arith, c.requires.0))
