-- Seven stores one after another lay seven longs; a field's number is the one that was handed in, since it fits (`to_z-of_z`).
use mathlib.Core.Path.{ap, ◌∙◌}
use native.Mathlib.Omega.{arith}
use mir.Syntax.{w32}
use mir.Facts.{to_z-of_z}
use mathlib.Core.List.{[], ◌∷◌}
use Rattle.words.specs.Words.{put_long, unsigned}
use Rattle.writer.proofs.Stores.{longs_laid}
use Rattle.text_fields.proofs.Bounds.{numbers}
use Rattle.text_writer.proofs.put_solid.Goals as goal

pub overflow_cast-text : goal.overflow_cast-text
overflow_cast-text c = let n = numbers _ c.requires.1 in omega (arith, n.long)

pub overflow_cast-text-2 : goal.overflow_cast-text-2
overflow_cast-text-2 c =
    let n = numbers _ c.requires.1 in omega (arith, n.long)

pub overflow_cast-text-3 : goal.overflow_cast-text-3
overflow_cast-text-3 c =
    let n = numbers _ c.requires.1 in omega (arith, n.long)

pub overflow_cast-text-4 : goal.overflow_cast-text-4
overflow_cast-text-4 c =
    let n = numbers _ c.requires.1 in omega (arith, n.long)

pub shape_of-out : goal.shape_of-out
shape_of-out c =
    omega (arith, c.put_long.auto, c.put_long-2.auto, c.put_long-3.auto, c.put_long-4.auto, c.put_signed_long.auto, c.put_signed_long-2.auto, c.put_signed_long-3.auto)

pub returns : goal.returns
returns c =
    let d = c.args.out.now in
    let t = c.args.text in
    let x = to_z-of_z {w = w32} {z = t.x} (record { sfits = omega arith }) in
    let y = to_z-of_z {w = w32} {z = t.y} (record { sfits = omega arith }) in
    let z = to_z-of_z {w = w32} {z = t.z} (record { sfits = omega arith }) in
    let two = c.put_long-2.ensures ∙ ap (λ l. put_long l 25 t.second) c.put_long.ensures in
    let three = c.put_long-3.ensures ∙ ap (λ l. put_long l 27 t.third) two in
    let four = c.put_long-4.ensures ∙ ap (λ l. put_long l 29 t.fourth) three in
    let five = c.put_signed_long.ensures ∙ ap (λ v. put_long c.put_long-4.new.s 31 (unsigned v)) x ∙ ap (λ l. put_long l 31 (unsigned t.x)) four in
    let six = c.put_signed_long-2.ensures ∙ ap (λ v. put_long c.put_signed_long.new.s 33 (unsigned v)) y ∙ ap (λ l. put_long l 33 (unsigned t.y)) five in
    let seven = c.put_signed_long-3.ensures ∙ ap (λ v. put_long c.put_signed_long-2.new.s 35 (unsigned v)) z ∙ ap (λ l. put_long l 35 (unsigned t.z)) six in
    let vs = t.first ∷ t.second ∷ t.third ∷ t.fourth ∷ unsigned t.x ∷ unsigned t.y ∷ unsigned t.z ∷ [] in
    seven ∙ longs_laid d 23 vs (omega (arith, c.requires.0))
