-- Each signed long that was read keeps its value (`point_flat`, `point_solid`).
use Rattle.words.proofs.Laws.{lent_below}
use Rattle.points_linkages.proofs.Numbered.{point_flat, point_solid}
use Rattle.points_linkages.proofs.points.point_from.Goals as goal

pub returns-then-dim-eq2 : goal.returns-then-dim-eq2
returns-then-dim-eq2 c =
    let s = c.args.file.now in
    point_flat s (lent_below s c.type_inv.file) _ c.args.first _ _
    c.signed_long-x.ensures c.signed_long-y.ensures c.if-dim-eq2.true

pub returns : goal.returns
returns c =
    let s = c.args.file.now in
    point_solid s (lent_below s c.type_inv.file) _ c.args.first _ _
    c.signed_long-x.ensures c.signed_long-y.ensures c.if-dim-eq2.false _
    c.signed_long-z.ensures
