-- By how many points the element has, and whether its numbers, which are few, fit.
use Prim.Native.Nat.{◌*◌, ◌≤◌, ◌<◌}
use mathlib.Core.Path.{◌∙◌}
use native.Mathlib.Omega.{arith}
use lib.ListN.{length-set}
use mir.Syntax.{w64}
use mir.ValLaws.{to_z_pos}
use Rattle.words.specs.Words.{words}
use Rattle.words.proofs.Laws.{lent_below}
use Rattle.points_linkages.proofs.Numbered.{before_few}
use Rattle.dgn_points.proofs.Fits.{numbers_few, element_none, element_full, element_put}
use Rattle.dgn_points.proofs.put_element.Goals as goal
use Rattle.dgn_points.proofs.put_element.Goals.{After-point_count-n}

pub returns-then-n-eq0 : goal.returns-then-n-eq0
returns-then-n-eq0 c = element_none c.args.dim (words c.args.file.now) c.args.at _ c.args.numbers.now c.args.used c.point_count-n.ensures c.if-n-eq0.true

-- an element has few points
few : (c : After-point_count-n) → (c.point_count-n.result < 65536) × (c.point_count-n.result * c.args.dim ≤ 196608)
few c =
    numbers_few c.args.file.now (lent_below c.args.file.now c.type_inv.file)
    c.args.dim c.args.at _ c.requires.0 c.point_count-n.ensures

pub overflow_mul-coordinates : goal.overflow_mul-coordinates
overflow_mul-coordinates c = omega (arith, few (goal.at.overflow_mul-coordinates c).After-point_count-n)

pub overflow_add-coordinates : goal.overflow_add-coordinates
overflow_add-coordinates c = omega (arith, few (goal.at.overflow_add-coordinates c).After-point_count-n)

pub returns-then-numbers-used : goal.returns-then-numbers-used
returns-then-numbers-used c =
    element_full c.args.dim (words c.args.file.now) c.args.at _ c.args.numbers.now
    c.args.used c.point_count-n.ensures c.if-n-eq0.false c.if-numbers-used.true

pub overflow_add-first : goal.overflow_add-first
overflow_add-first c =
    omega
    (arith, c.before_points.ensures, before_few (words c.args.file.now) c.args.at, c.requires)

pub overflow_cast-numbers-2 : goal.overflow_cast-numbers-2
overflow_cast-numbers-2 c = record { sfits = omega (arith, few (goal.at.overflow_cast-numbers-2 c).After-point_count-n) }

pub bounds-numbers-used-2 : goal.bounds-numbers-used-2
bounds-numbers-used-2 c =
    simp length-set (omega (arith, few (goal.at.bounds-numbers-used-2 c).After-point_count-n, c.if-numbers-used.false, c.requires))

pub put_longs-requires : goal.put_longs-requires
put_longs-requires c =
    simp length-set (
      omega (arith, few (goal.at.put_longs-requires c).After-point_count-n, c.if-numbers-used.false, c.requires),
      omega (
        arith,
        few (goal.at.put_longs-requires c).After-point_count-n,
        c.before_points.ensures,
        before_few (words c.args.file.now) c.args.at,
        c.requires,
      ),
    )

pub shape_of-numbers : goal.shape_of-numbers
shape_of-numbers c = c.put_longs.auto.numbers ∙ simp length-set

pub returns : goal.returns
returns c =
    let a = c.args in
    element_put a.dim (words a.file.now) a.at _ a.numbers.now a.used c.point_count-n.ensures
    c.if-n-eq0.false c.if-numbers-used.false _ _ _ _ c.before_points.ensures
    (to_z_pos w64 _ (omega (arith, c.requires))) (to_z_pos w64 _ (omega (arith, few (goal.at.returns c).After-point_count-n)))
    c.put_longs.ensures
