-- Without a range zeros are put, else each coordinate at its place.
use mathlib.Core.Path.{refl, sym, ap, ◌∙◌}
use native.Mathlib.Omega.{arith}
use lib.ListN.{length-set}
use lib.Seq.{sets}
use mir.Syntax.{w64}
use mir.ValLaws.{to_z-of_z}
use borrow.Author.Rules.{rules}
use Rattle.view_numbers.specs.Numbers.{range_numbers}
use Rattle.view_numbers.proofs.Laws.{range_put}
use Rattle.view_numbers.proofs.put_range.Goals as goal

pub bounds-out-at : goal.bounds-out-at
bounds-out-at c = simp length-set (omega (arith, c.requires))

pub bounds-out-at-in-Some : goal.bounds-out-at-in-Some
bounds-out-at-in-Some c = simp length-set (omega (arith, c.requires))

pub bounds-out-at-in-Some-2 : goal.bounds-out-at-in-Some-2
bounds-out-at-in-Some-2 c = simp length-set (omega (arith, c.requires))

pub bounds-out-at-in-Some-3 : goal.bounds-out-at-in-Some-3
bounds-out-at-in-Some-3 c = simp length-set (omega (arith, c.requires))

pub bounds-out-at-in-Some-4 : goal.bounds-out-at-in-Some-4
bounds-out-at-in-Some-4 c = simp length-set (omega (arith, c.requires))

pub bounds-out-at-in-Some-5 : goal.bounds-out-at-in-Some-5
bounds-out-at-in-Some-5 c = simp length-set (omega (arith, c.requires))

pub returns-in-None : goal.returns-in-None
returns-in-None c =
    c.put_signed.ensures ∙ ap (λ r. sets c.args.out.now c.args.at (range_numbers r)) (sym c.in-None.is)

pub shape_of-out-in-Some : goal.shape_of-out-in-Some
shape_of-out-in-Some c = simp length-set refl

pub returns-in-Some : goal.returns-in-Some
returns-in-Some c =
    rw (
      to_z-of_z w64 c.in-Some.range.low_x (search rules),
      to_z-of_z w64 c.in-Some.range.low_y (search rules),
      to_z-of_z w64 c.in-Some.range.low_z (search rules),
      to_z-of_z w64 c.in-Some.range.high_x (search rules),
      to_z-of_z w64 c.in-Some.range.high_y (search rules),
      to_z-of_z w64 c.in-Some.range.high_z (search rules),
    )
    (range_put c.args.out.now c.args.at c.in-Some.range.low_x c.in-Some.range.low_y c.in-Some.range.low_z c.in-Some.range.high_x c.in-Some.range.high_y c.in-Some.range.high_z
    ∙ ap (λ r. sets c.args.out.now c.args.at (range_numbers r)) (sym c.in-Some.is))
