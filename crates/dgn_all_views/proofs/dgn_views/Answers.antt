-- Each case of the answer (proofs/Replies).
use mathlib.Core.Path.{sym, ◌∙◌}
use native.Mathlib.Omega.{arith}
use lib.ListN.{length}
use Rattle.words.proofs.Laws.{lent_below}
use Rattle.order.proofs.Calls.{GoesOn, goes_on}
use Rattle.dgn_all_views.proofs.Replies.{views_refused, views_fit, views_full, views_done}
use Rattle.dgn_all_views.proofs.dgn_views.Goals as goal
use Rattle.dgn_all_views.proofs.dgn_views.Goals.{In-Ok}

-- the file is accepted, and the slice has room for the answer
goes : (c : In-Ok) → GoesOn c.args.dim c.args.file.now 1 (length c.args.out.now) c.in-Ok.elements
goes c = goes_on _ _ _ _ _ (sym c.begin.ensures ∙ c.in-Ok.is)

pub returns-then-none_fits : goal.returns-then-none_fits
returns-then-none_fits c =
    views_full _ _ _ _ _ _ (goes (goal.at.returns-then-none_fits c).In-Ok) _ c.many-n.ensures
    (sym c.if-none_fits.true ∙ c.none_fits.ensures)

pub put_part-requires : goal.put_part-requires
put_part-requires c =
    views_fit _ _ _ c.args.views.now c.args.out.now _ (goes (goal.at.put_part-requires c).In-Ok) _
    c.many-n.ensures

pub bounds-out-0 : goal.bounds-out-0
bounds-out-0 c =
    omega (arith, (goes (goal.at.bounds-out-0 c).In-Ok).room)

pub returns-in-Err : goal.returns-in-Err
returns-in-Err c = views_refused _ _ _ _ _ _ (sym c.begin.ensures ∙ c.in-Err.is)

pub returns : goal.returns
returns c =
    views_done _ _ _ _ _ _ (goes (goal.at.returns c).In-Ok) _ c.many-n.ensures
    (sym c.if-none_fits.false ∙ c.none_fits.ensures)
    (lent_below c.args.file.now c.type_inv.file) _
    c.put_part.ensures
