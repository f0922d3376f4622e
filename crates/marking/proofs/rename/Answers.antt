-- What opening refuses is the call's refusal (`closed`); what it opens is what `rename_by` asks for (`opened_ready`).
use mathlib.Core.Path.{refl}
use Rattle.std.proofs.lemmas.Result.{err_from_is_err_and}
use Rattle.opening.proofs.OpenSession.{opened_ready, opened_refused}
use Rattle.opening.proofs.Steps.{closed}
use Rattle.marking.proofs.rename.Goals as goal

pub rename_by-requires : goal.rename_by-requires
rename_by-requires c =
    (opened_ready c.args.dim c.args.file.now c.args.used c.args.journal.now
    c.args.jused _ _ c.open_at.ensures _ c.in_ok-opened.was).0

pub returns-in_err-opened : goal.returns-in_err-opened
returns-in_err-opened c =
    let p = err_from_is_err_and c.from_residual.result c.from_residual.ensures.1 in
    rw (p.1, p.2)
    (closed _ _ _ _ _ refl
    (opened_refused c.args.dim c.args.file.now c.args.used c.args.journal.now
    c.args.jused _ _ c.open_at.ensures _ c.in_err-opened.was))
