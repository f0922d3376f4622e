-- Each store is in the slice; the numbers are as they were.
use native.Mathlib.Omega.{arith}
use lib.ListN.{length-set}
use mir.Syntax.{w64}
use mir.ValLaws.{to_z_pos}
use Rattle.dgn_plates.proofs.Puts.{nine_put}
use Rattle.dgn_plates.proofs.put_plate.Goals as goal

pub overflow_cast-numbers : goal.overflow_cast-numbers
overflow_cast-numbers c = omega (arith, c.requires.1 0)

pub overflow_cast-numbers-2 : goal.overflow_cast-numbers-2
overflow_cast-numbers-2 c = omega (arith, c.requires.1 1)

pub bounds-numbers-from-2 : goal.bounds-numbers-from-2
bounds-numbers-from-2 c = simp length-set (omega arith)

pub overflow_cast-numbers-3 : goal.overflow_cast-numbers-3
overflow_cast-numbers-3 c = omega (arith, c.requires.1 2)

pub bounds-numbers-from-3 : goal.bounds-numbers-from-3
bounds-numbers-from-3 c = simp length-set (omega arith)

pub overflow_cast-numbers-4 : goal.overflow_cast-numbers-4
overflow_cast-numbers-4 c = omega (arith, c.requires.1 3)

pub bounds-numbers-from-4 : goal.bounds-numbers-from-4
bounds-numbers-from-4 c = simp length-set (omega arith)

pub overflow_cast-numbers-5 : goal.overflow_cast-numbers-5
overflow_cast-numbers-5 c = omega (arith, c.requires.1 4)

pub bounds-numbers-from-5 : goal.bounds-numbers-from-5
bounds-numbers-from-5 c = simp length-set (omega arith)

pub overflow_cast-numbers-6 : goal.overflow_cast-numbers-6
overflow_cast-numbers-6 c = omega (arith, c.requires.1 5)

pub bounds-numbers-from-6 : goal.bounds-numbers-from-6
bounds-numbers-from-6 c = simp length-set (omega arith)

pub overflow_cast-numbers-7 : goal.overflow_cast-numbers-7
overflow_cast-numbers-7 c = omega (arith, c.requires.1 6)

pub bounds-numbers-from-7 : goal.bounds-numbers-from-7
bounds-numbers-from-7 c = simp length-set (omega arith)

pub overflow_cast-numbers-8 : goal.overflow_cast-numbers-8
overflow_cast-numbers-8 c = omega (arith, c.requires.1 7)

pub bounds-numbers-from-8 : goal.bounds-numbers-from-8
bounds-numbers-from-8 c = simp length-set (omega arith)

pub overflow_cast-numbers-9 : goal.overflow_cast-numbers-9
overflow_cast-numbers-9 c = omega (arith, c.requires.1 8)

pub bounds-numbers-from-9 : goal.bounds-numbers-from-9
bounds-numbers-from-9 c = simp length-set (omega arith)

pub shape_of-numbers : goal.shape_of-numbers
shape_of-numbers c = simp length-set

pub returns : goal.returns
returns c =
    let a = c.args in
    let small = c.requires.1 in
    rw (
      to_z_pos w64 a.plate.first (omega (arith, small 0)),
      to_z_pos w64 a.plate.second (omega (arith, small 1)),
      to_z_pos w64 a.plate.lines (omega (arith, small 2)),
      to_z_pos w64 a.plate.pointed (omega (arith, small 3)),
      to_z_pos w64 a.plate.texts (omega (arith, small 4)),
      to_z_pos w64 a.plate.curves (omega (arith, small 5)),
      to_z_pos w64 a.plate.headers (omega (arith, small 6)),
      to_z_pos w64 a.plate.others (omega (arith, small 7)),
      to_z_pos w64 a.plate.levels (omega (arith, small 8)),
    )
    (nine_put a.numbers.now a.from _ _ _ _ _ _ _ _ _)
