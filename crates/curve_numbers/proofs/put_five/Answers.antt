-- Each store is in the slice.
use native.Mathlib.Omega.{arith}
use lib.ListN.{length-set}
use Rattle.curve_numbers.proofs.Laws.{five_put}
use Rattle.curve_numbers.proofs.put_five.Goals as goal

pub bounds-floats-at-2 : goal.bounds-floats-at-2
bounds-floats-at-2 c = simp length-set (omega arith)

pub bounds-floats-at-3 : goal.bounds-floats-at-3
bounds-floats-at-3 c = simp length-set (omega arith)

pub bounds-floats-at-4 : goal.bounds-floats-at-4
bounds-floats-at-4 c = simp length-set (omega arith)

pub bounds-floats-at-5 : goal.bounds-floats-at-5
bounds-floats-at-5 c = simp length-set (omega arith)

pub shape_of-floats : goal.shape_of-floats
shape_of-floats c = simp length-set

pub returns : goal.returns
returns c = let a = c.args in five_put a.floats.now a.at _ _ _ _ _
