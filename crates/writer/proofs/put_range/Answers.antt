-- Each coordinate is stored as the long that stands for it, at its place, and stores at rising places lay the list (`longs_laid`).
use mathlib.Core.Path.{ap, ◌∙◌}
use native.Mathlib.Omega.{arith}
use Rattle.words.specs.Words.{put_long}
use Rattle.ranges.specs.Ranges.{stored}
use Rattle.ranges.proofs.Ranges.{cast_fits, cast_stored}
use Rattle.fields.specs.Words.{range_longs}
use Rattle.fields.proofs.Bounds.{bounds}
use Rattle.writer.proofs.Stores.{longs_laid}
use Rattle.writer.proofs.put_range.Goals as goal

pub overflow_cast-fields : goal.overflow_cast-fields
overflow_cast-fields c = cast_fits c.args.fields.low_x (bounds c.args.fields c.requires.1).range.0

pub overflow_cast-fields-2 : goal.overflow_cast-fields-2
overflow_cast-fields-2 c = cast_fits c.args.fields.low_y (bounds c.args.fields c.requires.1).range.1.0

pub overflow_cast-fields-3 : goal.overflow_cast-fields-3
overflow_cast-fields-3 c = cast_fits c.args.fields.low_z (bounds c.args.fields c.requires.1).range.1.1.0

pub overflow_cast-fields-4 : goal.overflow_cast-fields-4
overflow_cast-fields-4 c = cast_fits c.args.fields.high_x (bounds c.args.fields c.requires.1).range.1.1.1.0

pub overflow_cast-fields-5 : goal.overflow_cast-fields-5
overflow_cast-fields-5 c = cast_fits c.args.fields.high_y (bounds c.args.fields c.requires.1).range.1.1.1.1.0

pub overflow_cast-fields-6 : goal.overflow_cast-fields-6
overflow_cast-fields-6 c = cast_fits c.args.fields.high_z (bounds c.args.fields c.requires.1).range.1.1.1.1.1.0

pub shape_of-out : goal.shape_of-out
shape_of-out c =
    omega (
      arith,
      c.put_coordinate.auto,
      c.put_coordinate-2.auto,
      c.put_coordinate-3.auto,
      c.put_coordinate-4.auto,
      c.put_coordinate-5.auto,
      c.put_coordinate-6.auto,
    )

pub returns : goal.returns
returns c =
    let f = c.args.fields in
    let d = c.args.out.now in
    let small = (bounds f c.requires.1).range in
    let one = cast_stored f.low_x small.0 d 2 c.put_coordinate.ensures in
    let two = cast_stored f.low_y small.1.0 c.put_coordinate.new.s 4 c.put_coordinate-2.ensures
    ∙ ap (λ x. put_long x 4 (stored f.low_y)) one in
    let three = cast_stored f.low_z small.1.1.0 c.put_coordinate-2.new.s 6 c.put_coordinate-3.ensures
    ∙ ap (λ x. put_long x 6 (stored f.low_z)) two in
    let four = cast_stored f.high_x small.1.1.1.0 c.put_coordinate-3.new.s 8 c.put_coordinate-4.ensures
    ∙ ap (λ x. put_long x 8 (stored f.high_x)) three in
    let five = cast_stored f.high_y small.1.1.1.1.0 c.put_coordinate-4.new.s 10 c.put_coordinate-5.ensures
    ∙ ap (λ x. put_long x 10 (stored f.high_y)) four in
    let six = cast_stored f.high_z small.1.1.1.1.1.0 c.put_coordinate-5.new.s 12 c.put_coordinate-6.ensures
    ∙ ap (λ x. put_long x 12 (stored f.high_z)) five in
    six ∙ longs_laid d 2 (range_longs f) (omega (arith, c.requires.0))
