-- No element at the place is 13 (`remove_absent`); one that is found is what `remove_found` asks for.
use mathlib.Core.Path.{subst}
use Rattle.std.proofs.lemmas.Result.{err_from_is_err_and}
use Rattle.words.proofs.Laws.{lent_below}
use Rattle.opening.specs.Steps.{Open}
use Rattle.moving.proofs.Ways.{remove_absent}
use Rattle.moving.proofs.remove_opened.Goals as goal

pub remove_found-requires : goal.remove_found-requires
remove_found-requires c =
    record {
      depth = c.in_ok-spot.spot.depth;
      opened = subst (Open c.args.dim c.args.file.now c.args.used c.args.journal.now c.args.jused c.args.place) c.in_ok-spot.was c.requires;
    }

pub returns-in_err-spot : goal.returns-in_err-spot
returns-in_err-spot c =
    let p = err_from_is_err_and c.from_residual.result c.from_residual.ensures.1 in
    rw (p.1, p.2)
    (remove_absent _ _ _ _ _ _ _ c.requires (lent_below c.args.file.now c.type_inv.file) _ c.in_err-spot.was)
