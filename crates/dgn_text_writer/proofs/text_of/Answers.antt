-- Each number is the slice's (`back`), and a coordinate keeps its value in 32 bits (`cast_is`); so it is the same text (`same_text`).
use mathlib.Core.Path.{ap, ◌∙◌}
use native.Mathlib.Omega.{arith}
use lib.Dec.{eqb}
use Prim.Native.Nat.{◌%◌}
use Rattle.ranges.proofs.Ranges.{cast_fits, cast_is}
use Rattle.write_answers.specs.Writing.{number_at, natural}
use Rattle.write_answers.proofs.Numbers.{back}
use Rattle.dgn_text_writer.specs.Writing.{odd_by}
use Rattle.dgn_text_writer.proofs.Numbers.{given, same_text}
use Rattle.dgn_text_writer.proofs.text_of.Goals as goal

pub bounds-text-0 : goal.bounds-text-0
bounds-text-0 c = omega (arith, given _ c.requires)

pub bounds-text-1 : goal.bounds-text-1
bounds-text-1 c = omega (arith, given _ c.requires)

pub bounds-text-2 : goal.bounds-text-2
bounds-text-2 c = omega (arith, given _ c.requires)

pub bounds-text-3 : goal.bounds-text-3
bounds-text-3 c =
    omega (arith, given _ c.requires)

pub bounds-text-4 : goal.bounds-text-4
bounds-text-4 c =
    omega (arith, given _ c.requires)

pub bounds-text-5 : goal.bounds-text-5
bounds-text-5 c =
    omega (arith, given _ c.requires)

pub bounds-text-6 : goal.bounds-text-6
bounds-text-6 c =
    omega (arith, given _ c.requires)

pub bounds-text-7 : goal.bounds-text-7
bounds-text-7 c =
    omega (arith, given _ c.requires)

pub bounds-text-8 : goal.bounds-text-8
bounds-text-8 c =
    omega (arith, given _ c.requires)

pub overflow_cast-result : goal.overflow_cast-result
overflow_cast-result c =
    let g = given _ c.requires in cast_fits (number_at c.args.text.now 8) g.x

pub bounds-text-9 : goal.bounds-text-9
bounds-text-9 c =
    omega (arith, given _ c.requires)

pub overflow_cast-result-2 : goal.overflow_cast-result-2
overflow_cast-result-2 c =
    let g = given _ c.requires in cast_fits (number_at c.args.text.now 9) g.y

pub bounds-text-10 : goal.bounds-text-10
bounds-text-10 c =
    omega (arith, given _ c.requires)

pub overflow_cast-result-3 : goal.overflow_cast-result-3
overflow_cast-result-3 c =
    let g = given _ c.requires in cast_fits (number_at c.args.text.now 10) g.z

pub bounds-text-11 : goal.bounds-text-11
bounds-text-11 c =
    omega (arith, given _ c.requires)

pub returns : goal.returns
returns c =
    let g = given _ c.requires in
    same_text
    (c.natural.ensures ∙ ap natural (back (number_at c.args.text.now 0) (record { sfits = c.natural-arg-1.given })))
    (c.natural-2.ensures ∙ ap natural (back (number_at c.args.text.now 1) (record { sfits = c.natural-arg-2-1.given })))
    (c.natural-3.ensures ∙ ap natural (back (number_at c.args.text.now 2) (record { sfits = c.natural-arg-3-1.given })))
    (c.natural-4.ensures ∙ ap natural (back (number_at c.args.text.now 3) (record { sfits = c.natural-arg-4-1.given })))
    (c.natural-5.ensures ∙ ap natural (back (number_at c.args.text.now 4) (record { sfits = c.natural-arg-5-1.given })))
    (c.natural-6.ensures ∙ ap natural (back (number_at c.args.text.now 5) (record { sfits = c.natural-arg-6-1.given })))
    (c.natural-7.ensures ∙ ap natural (back (number_at c.args.text.now 6) (record { sfits = c.natural-arg-7-1.given })))
    (c.natural-8.ensures ∙ ap natural (back (number_at c.args.text.now 7) (record { sfits = c.natural-arg-8-1.given })))
    (cast_is (number_at c.args.text.now 8) g.x)
    (cast_is (number_at c.args.text.now 9) g.y)
    (cast_is (number_at c.args.text.now 10) g.z)
    (c.odd_of.ensures ∙ ap (odd_by (eqb (c.args.n % 2) 0)) (back (number_at c.args.text.now 11) (record { sfits = c.odd_of-arg-1.given })))
