-- Each case of the answer (proofs/Replies); an accepted file has few elements.
use mathlib.Core.Path.{sym, ◌∙◌}
use native.Mathlib.Omega.{arith}
use lib.ListN.{length, length-set}
use Rattle.order.proofs.Calls.{GoesOn, goes_on, goes_few}
use Rattle.dgn_ranges.proofs.Replies.{ranges_refused, ranges_full, ranges_done}
use Rattle.dgn_ranges.proofs.dgn_ranges.Goals as goal
use Rattle.dgn_ranges.proofs.dgn_ranges.Goals.{In-Ok}

-- the file is accepted, and the slice has room for the answer
goes : (c : In-Ok) → GoesOn c.args.dim c.args.file.now 2 (length c.args.out.now) c.in-Ok.elements
goes c = goes_on _ _ _ _ _ (sym c.begin.ensures ∙ c.in-Ok.is)

pub put_ranges-next-requires : goal.put_ranges-next-requires
put_ranges-next-requires c = goes_few _ _ _ _ _ (goes (goal.at.put_ranges-next-requires c).In-Ok)

pub returns-then-none_fits : goal.returns-then-none_fits
returns-then-none_fits c =
    ranges_full _ _ _ _ _ _ (goes (goal.at.returns-then-none_fits c).In-Ok) _ _ c.put_ranges-next.ensures (sym c.if-none_fits.true ∙ c.none_fits.ensures)

pub bounds-out-0 : goal.bounds-out-0
bounds-out-0 c = omega (arith, (goes (goal.at.bounds-out-0 c).In-Ok).room)

pub bounds-out-1 : goal.bounds-out-1
bounds-out-1 c = simp length-set (omega (arith, (goes (goal.at.bounds-out-1 c).In-Ok).room))

pub returns-in-Err : goal.returns-in-Err
returns-in-Err c = ranges_refused _ _ _ _ _ _ (sym c.begin.ensures ∙ c.in-Err.is)

pub returns : goal.returns
returns c =
    ranges_done _ _ _ _ _ _ (goes (goal.at.returns c).In-Ok) _ _ c.put_ranges-next.ensures (sym c.if-none_fits.false ∙ c.none_fits.ensures)
