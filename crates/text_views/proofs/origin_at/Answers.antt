-- By the dimension; each signed long that was read keeps its value.
use borrow.Author.Tests.{eq-eqb, ne_eqb}
use Rattle.words.proofs.Laws.{lent_below}
use Rattle.points_linkages.proofs.Numbered.{kept}
use Rattle.text_views.specs.TextViews.{origin_at}
use Rattle.text_views.proofs.origin_at.Goals as goal

pub returns-then-dim-eq2 : goal.returns-then-dim-eq2
unfolding origin_at
returns-then-dim-eq2 c = let s = c.args.file.now in
    let b = lent_below s c.type_inv.file in
    rw (eq-eqb _ 2 c.if-dim-eq2.true, kept s b _ _ c.signed_long.ensures, kept s b _ _ c.signed_long-then-dim-eq2.ensures)

pub returns : goal.returns
unfolding origin_at
returns c = let s = c.args.file.now in
    let b = lent_below s c.type_inv.file in
    rw (ne_eqb _ 2 c.if-dim-eq2.false, kept s b _ _ c.signed_long-2.ensures, kept s b _ _ c.signed_long-3.ensures, kept s b _ _ c.signed_long-4.ensures)
