-- The header, N, the points and the tail are laid one behind the other (`element_laid`).
use Prim.Native.Nat.{◌+◌, ◌*◌}
use mathlib.Core.Path.{ap, ◌∙◌}
use mathlib.Core.List.{map}
use native.Mathlib.Omega.{arith}
use lib.ListN.{length}
use Rattle.words.specs.Words.{unsigned}
use Rattle.words.proofs.Laws.{lent_below}
use Rattle.copies.specs.Copies.{copied}
use Rattle.fields.specs.Words.{longs, header_words, count_words, points_in}
use Rattle.fields.proofs.Element.{kind_small}
use Rattle.fields.proofs.Writable.{writable}
use Rattle.writer.specs.Writing.{laid}
use Rattle.writer.proofs.Laid.{count_room, points_end, element_laid}
use Rattle.writer.proofs.put_element.Goals as goal

pub overflow_add-end : goal.overflow_add-end
overflow_add-end c =
    let w = writable c.requires in omega (arith, points_end w c.points_place-start.result c.points_place-start.ensures, w.size)

pub overflow_add-size : goal.overflow_add-size
overflow_add-size c =
    let w = writable c.requires in omega (arith, points_end w c.points_place-start.result c.points_place-start.ensures, w.size)

pub put_header_words-requires : goal.put_header_words-requires
put_header_words-requires c =
    let w = writable c.requires in
    let l = count_room w in
    let e = points_end w c.points_place-start.result c.points_place-start.ensures in
    record { in_bounds = (omega (arith, w.fits), (omega arith, omega (arith, w.size))); kind_bound = (kind_small _ w.call.kind, w.call.fields) }

pub put_count-requires : goal.put_count-requires
put_count-requires c =
    let w = writable c.requires in
    record {
      in_bounds = (omega (arith, c.put_header_words.auto, (count_room w).0, w.fits), omega (arith, (count_room w).1));
      dim_value = w.call.dims;
    }

pub put_points-requires : goal.put_points-requires
put_points-requires c =
    let w = writable c.requires in
    omega (arith, points_end w c.points_place-start.result c.points_place-start.ensures, w.fits, c.put_header_words.auto, c.put_count.auto)

pub overflow_mul-end-2 : goal.overflow_mul-end-2
overflow_mul-end-2 c =
    let w = writable c.requires in
    omega (arith, points_end w c.points_place-start.result c.points_place-start.ensures, w.size)

pub returns : goal.returns
returns c =
    let a = c.args in
    let w = writable c.requires in
    let at = c.points_place-start.result in
    let size = points_end w at c.points_place-start.ensures in
    let header = c.put_header_words.ensures ∙ ap (λ n. laid a.out.now 0 (header_words a.fields n)) size in
    let counted = c.put_count.ensures ∙ ap (λ x. laid x 18 (count_words a.fields.kind (points_in a.dim a.points.now))) header in
    let points = c.put_points.ensures ∙ ap (λ x. laid x at (longs (map unsigned a.points.now))) counted in
    let tail = c.copy_in.ensures ∙ ap (λ x. copied x (2 * (at + 2 * length a.points.now)) a.tail.now) points in
    record { size = size; bytes = tail ∙ element_laid w a.out.now at c.points_place-start.ensures w.fits (lent_below a.tail.now c.type_inv.tail) }
