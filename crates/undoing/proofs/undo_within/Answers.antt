-- The record is read before opening, so that its place is found there; what opening refuses is the call's refusal (`undo_closed`),
-- what it opens and the record are what `undo_opened` asks for.
use Rattle.std.proofs.lemmas.Result.{err_from_is_err_and}
use Rattle.opening.proofs.OpenSession.{opened_ready, opened_refused, open_by, jused_within}
use Rattle.undoing.proofs.Ways.{undo_closed}
use Rattle.undoing.proofs.undo_within.Goals as goal

pub undo_opened-requires : goal.undo_opened-requires
undo_opened-requires c =
    let o = opened_ready c.args.dim c.args.file.now c.args.used c.args.journal.now
    c.args.jused _ _ c.open_at.ensures _ c.in_ok-opened.was in
    record {
      fact = open_by c.args.dim c.args.file.now c.args.used c.args.journal.now c.args.jused c.place_in-place.ensures o.0;
      marker_value = o.1;
      last_read = c.record_by-last.ensures.within (jused_within o.0);
    }

pub returns-in_err-opened : goal.returns-in_err-opened
returns-in_err-opened c =
    let p = err_from_is_err_and c.from_residual.result c.from_residual.ensures.1 in
    rw (p.1, p.2)
    (undo_closed _ _ _ _ _ (opened_refused c.args.dim c.args.file.now c.args.used c.args.journal.now
    c.args.jused _ _ c.open_at.ensures _ c.in_err-opened.was))
