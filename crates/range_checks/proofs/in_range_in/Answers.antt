-- Another type is refused (`other_type`); else its points, which are few, decide (`answer_is`).
use Prim.Native.Nat.{◌/◌, ◌<◌}
use mathlib.Core.Path.{◌≡◌, refl, sym, ap, ◌∙◌}
use mathlib.Core.Bool.{true}
use native.Mathlib.Omega.{arith}
use lib.ListN.{length}
use Rattle.words.specs.Words.{words}
use Rattle.words.proofs.Laws.{lent_below}
use Rattle.headers.specs.Header.{type_at}
use Rattle.places.proofs.OfType.{type_inside}
use Rattle.points_linkages.proofs.Numbered.{count_small, before_few}
use Rattle.range_checks.specs.InRange.{is_range_checked}
use Rattle.range_checks.proofs.Laws.{other_type, answer_is}
use Rattle.range_checks.proofs.in_range_in.Goals as goal
use Rattle.range_checks.proofs.in_range_in.Goals.{After-is_range_checked, Else-not-is_range_checked}

-- the test is of the element's type
test : (c : After-is_range_checked) → c.is_range_checked.result ≡ is_range_checked (type_at (words c.args.file.now) c.args.at)
test c = c.is_range_checked.ensures ∙ ap is_range_checked c.type_at.ensures

asked : (c : Else-not-is_range_checked) → is_range_checked (type_at (words c.args.file.now) c.args.at) ≡ true
asked c = sym (c.is_range_checked.ensures ∙ ap is_range_checked c.type_at.ensures) ∙ c.if-not-is_range_checked.false

inside : (c : Else-not-is_range_checked) → c.args.at < length c.args.file.now / 2
inside c = type_inside is_range_checked refl c.args.file.now c.args.at (asked c)

pub returns-then-not-is_range_checked : goal.returns-then-not-is_range_checked
returns-then-not-is_range_checked c = let a = c.args in other_type a.dim (words a.file.now) a.at (sym (test (goal.at.returns-then-not-is_range_checked c).After-is_range_checked) ∙ c.if-not-is_range_checked.true)

pub overflow_add-first : goal.overflow_add-first
overflow_add-first c =
    let a = c.args in
    omega (arith, c.before_points.ensures, before_few (words a.file.now) a.at, inside (goal.at.overflow_add-first c).Else-not-is_range_checked)

pub each_lies-requires : goal.each_lies-requires
each_lies-requires c =
    let a = c.args in
    let few = count_small a.file.now (lent_below a.file.now c.type_inv.file) a.at in
    omega (arith, c.before_points.ensures, before_few (words a.file.now) a.at, c.point_count-n.ensures, inside (goal.at.each_lies-requires c).Else-not-is_range_checked)

pub returns : goal.returns
returns c =
    let a = c.args in
    answer_is a.dim (words a.file.now) a.at (asked (goal.at.returns c).Else-not-is_range_checked) _ _ _ c.point_count-n.ensures c.before_points.ensures c.range_at.ensures
    c.each_lies.ensures
