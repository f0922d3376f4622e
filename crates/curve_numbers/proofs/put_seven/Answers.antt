-- Each store is in the slice; the numbers are as they were.
use native.Mathlib.Omega.{arith}
use lib.ListN.{length-set}
use mir.Syntax.{w64}
use mir.ValLaws.{to_z_pos}
use Rattle.curve_numbers.proofs.Laws.{seven_put}
use Rattle.curve_numbers.proofs.put_seven.Goals as goal

pub bounds-numbers-at-2 : goal.bounds-numbers-at-2
bounds-numbers-at-2 c = simp length-set (omega arith)

pub bounds-numbers-at-3 : goal.bounds-numbers-at-3
bounds-numbers-at-3 c = simp length-set (omega arith)

pub bounds-numbers-at-4 : goal.bounds-numbers-at-4
bounds-numbers-at-4 c = simp length-set (omega arith)

pub bounds-numbers-at-5 : goal.bounds-numbers-at-5
bounds-numbers-at-5 c = simp length-set (omega arith)

pub bounds-numbers-at-6 : goal.bounds-numbers-at-6
bounds-numbers-at-6 c = simp length-set (omega arith)

pub bounds-numbers-at-7 : goal.bounds-numbers-at-7
bounds-numbers-at-7 c = simp length-set (omega arith)

pub shape_of-numbers : goal.shape_of-numbers
shape_of-numbers c = simp length-set

pub returns : goal.returns
returns c = let a = c.args in
    rw (
      to_z_pos w64 a.kind (omega arith),
      to_z_pos w64 a.start (omega arith),
      to_z_pos w64 a.sweep (omega arith),
      to_z_pos w64 a.first (omega arith),
      to_z_pos w64 a.second (omega arith),
      to_z_pos w64 a.third (omega arith),
      to_z_pos w64 a.fourth (omega arith),
    )
    (seven_put a.numbers.now a.at _ _ _ _ _ _ _)
